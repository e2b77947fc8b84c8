-- After a letter that goes out alone, a well scrolled draft is well scrolled still.
use Rattle.std.proofs.Common.{◌≡◌, ℕ, ◌+◌, ◌-◌, ◌<◌, ◌≤◌, min, Bool, true, false, cond, not, ◌&&◌, eqb, ltb, List, [], ◌∷◌, ◌++◌, length, take, drop, refl, ap, ◌∙◌, inl, inr, ⊎_elim, arith}
use Rattle.std.proofs.lemmas.List.{length-append, take_all, drop_all, drop-append-le}
use Rattle.std.proofs.lemmas.Bool.{and_parts, eqb-true, ltb-true}
use Rattle.font.specs.declared.Columns.{Columns}
use Rattle.font.specs.Labels.{text_columns, has_label}
use Rattle.draft.specs.declared.action.DisplayAction.TheVariants.{Letter, Redraw}
use Rattle.draft.specs.Line.{Line, line, with_inserted}
use Rattle.draft.specs.Draft.{draft}
use Rattle.draft.specs.Scroll.{margin, shown_columns, WellScrolled}
use Rattle.draft.specs.Edits.{goes_out_alone}
use Rattle.draft.specs.Letters.{LetterNeedsNoScrolling}
use Rattle.draft.proofs.Clamp.{keeps}

module _ (columns : ℕ → Columns) where
  columns_append : (xs ys : List ℕ) → text_columns columns (xs ++ ys) ≡ text_columns columns xs + text_columns columns ys
  columns_append [] ys = omega arith
  columns_append (x ∷ xs) ys = let i = columns_append xs ys in omega arith

  shown_at_end : (t : List ℕ) (p o : ℕ) → length t ≤ p → shown_columns columns (line t p) o ≡ text_columns columns (drop o t)
  shown_at_end t p o h = ap (λ (xs : List ℕ). text_columns columns (drop o xs)) (take_all p t h)

-- a character at the end of a line
pub inserted_at_end : (c : ℕ) (l : Line) → l.place ≡ length l.text → with_inserted (c ∷ []) l ≡ line (l.text ++ (c ∷ [])) (l.place + 1)
inserted_at_end c l e =
    let all : take l.place l.text ≡ l.text = take_all l.place l.text (omega arith) in
    let none : drop l.place l.text ≡ [] = drop_all l.place l.text (omega arith) in
    rw (all, none)

module _ (columns : ℕ → Columns) (c : ℕ) (l : Line) (end : l.place ≡ length l.text) where
  abbrev after : Line
  after = with_inserted (c ∷ []) l

  -- no fewer columns show on the left of the cursor than before
  pub shows_more : (o : ℕ) → o ≤ l.place → shown_columns columns l o ≤ shown_columns columns after o
  shows_more o h =
      let size = length-append l.text (c ∷ []) in
      let before = shown_at_end columns l.text l.place o (omega arith) in
      let same = ap (λ (x : Line). shown_columns columns x o) (inserted_at_end c l end) in
      let now = shown_at_end columns (l.text ++ (c ∷ [])) (l.place + 1) o (omega arith) in
      let parts = ap (text_columns columns) (drop-append-le o l.text (c ∷ []) (omega arith)) ∙ columns_append columns (drop o l.text) (c ∷ []) in
      omega arith

  pub inserted_well : (room o : ℕ) → WellScrolled columns room l o → shown_columns columns after o ≤ room - margin → WellScrolled columns room after o
  inserted_well room o w h = record {
    offset_up_to_place = omega (arith, w.offset_up_to_place);
    margin_on_the_right = h;
    no_further_than_needed =
        ⊎_elim inl
        (λ t. inr (⊎_elim
        (λ (u : margin ≤ shown_columns columns l o). inl (omega (arith, shows_more o w.offset_up_to_place)))
        (λ (u : room - margin < shown_columns columns l (o - 1)). inr (omega (arith, shows_more (o - 1) (omega (arith, w.offset_up_to_place)))))
        t))
        w.no_further_than_needed;
  }

alone : (b : Bool) → cond b Letter Redraw ≡ Letter → b ≡ true
alone true e = refl
alone false e = let z : ◌≡◌ {A = ℕ} 0 1 = cc in absurd (omega arith)

pub letter_needs_no_scrolling : LetterNeedsNoScrolling
letter_needs_no_scrolling columns room c d w e =
    let l = with_inserted (c ∷ []) d.line in
    let plain = not (has_label (columns c)) in
    let at_end = eqb d.line.place (length d.line.text) in
    let fits = ltb (shown_columns columns l d.offset) (room - margin) in
    let tests = and_parts (plain && at_end) fits (alone (goes_out_alone columns room c d) e) in
    let end : d.line.place ≡ length d.line.text = eqb-true _ _ (and_parts plain at_end tests.0).1 in
    let few : shown_columns columns l d.offset < room - margin = ltb-true _ _ tests.1 in
    let offset : min d.offset (d.line.place + 1) ≡ d.offset = omega (arith, w.offset_up_to_place) in
    let well = inserted_well columns c d.line end room d.offset w (omega arith) in
    rw offset (ap (draft l) (keeps columns l room d.offset well))
