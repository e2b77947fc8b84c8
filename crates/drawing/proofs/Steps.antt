-- The pieces of a text: what is drawn of the first character, of a run, and of what comes after it.
use Rattle.std.proofs.Common.{◌≡◌, ℕ, zero, suc, ◌+◌, ◌-◌, ◌<◌, ◌≤◌, Bool, true, false, cond, ltb, leb, List, [], ◌∷◌, ◌++◌, length, get_or, take, drop, sym, refl, ap, ◌∙◌, add-zero, add_assoc, append_assoc, arith}
use Rattle.std.proofs.lemmas.List.{append-nil, drop_more, drop_all}
use Rattle.std.proofs.lemmas.Bool.{false≢true, true≢false, le-ltb, lt-ltb, ltb-true, ltb-false}
use Rattle.std.proofs.lemmas.Bool.Decides.{nat_tests}
use Rattle.font.specs.declared.Columns.{Columns}
use Rattle.font.specs.declared.Columns.TheVariants.{NoWidth, Zero, One, Two}
use Rattle.font.specs.Labels.{label as spelling, has_label, columns_by, char_columns, text_columns}
use Rattle.glass.specs.Calls.{GlassCall, clear}
use Rattle.drawing.specs.Drawing.{sent, ended, reversed, joined, piece, pieces}
use Rattle.drawing.specs.Piece.{Unlabelled, StopsRun}

pub sent_first : (run : List ℕ) (ks : List GlassCall) → sent run ks ≡ sent run [] ++ ks
sent_first [] ks = refl
sent_first (c ∷ cs) ks = refl

pub unlabelled_at : (columns : ℕ → Columns) (cs : List ℕ) (i : ℕ) → Unlabelled columns cs → i < length cs → has_label (columns (get_or cs i 0)) ≡ false
unlabelled_at columns [] i u h = absurd (omega arith)
unlabelled_at columns (c ∷ cs) zero u h = u.0
unlabelled_at columns (c ∷ cs) (suc i) u h = unlabelled_at columns cs i u.1 (omega arith)

module _ (columns : ℕ → Columns) (width : ℕ) where
  joins_by : (w : Columns) (c col : ℕ) (run : List ℕ) (on : ℕ → List ℕ → List GlassCall) → has_label w ≡ false
      → piece w width col run c on ≡ joined width col run (columns_by w c) (λ k. on k (run ++ (c ∷ [])))
  joins_by NoWidth c col run on e = absurd (true≢false e)
  joins_by Zero c col run on e = refl
  joins_by One c col run on e = refl
  joins_by Two c col run on e = refl

  spells_by : (w : Columns) (c col : ℕ) (run : List ℕ) (on : ℕ → List ℕ → List GlassCall) → has_label w ≡ true
      → let l = take (width - col) (spelling c) in piece w width col run c on ≡ sent run (reversed l (cond (leb width (col + length l)) [] (on (col + length l) [])))
  spells_by NoWidth c col run on e = refl
  spells_by Zero c col run on e = absurd (false≢true e)
  spells_by One c col run on e = absurd (false≢true e)
  spells_by Two c col run on e = absurd (false≢true e)

  -- a character that fits joins the run
  character_joins : (c col : ℕ) (run cs : List ℕ) → has_label (columns c) ≡ false → col + char_columns columns c ≤ width
      → pieces columns width col run (c ∷ cs) ≡ pieces columns width (col + char_columns columns c) (run ++ (c ∷ [])) cs
  character_joins c col run cs e fits =
      joins_by (columns c) c col run (λ k more. pieces columns width k more cs) e ∙ rw (le-ltb width (col + char_columns columns c) fits)

  -- drawing stops before one that does not
  character_stops : (c col : ℕ) (run cs : List ℕ) → has_label (columns c) ≡ false → width < col + char_columns columns c
      → pieces columns width col run (c ∷ cs) ≡ ended width col run
  character_stops c col run cs e past =
      joins_by (columns c) c col run (λ k more. pieces columns width k more cs) e ∙ rw (lt-ltb width (col + char_columns columns c) past)

  -- a run goes out before a label, and at the end
  pub run_first : (col : ℕ) (run rest : List ℕ) → StopsRun columns rest → pieces columns width col run rest ≡ sent run [] ++ pieces columns width col [] rest
  run_first col run [] stop = sent_first run (cond (ltb col width) (clear ∷ []) [])
  run_first col run (c ∷ cs) stop =
      spells_by (columns c) c col run (λ k more. pieces columns width k more cs) stop
      ∙ sent_first run _
      ∙ ap (λ ks. sent run [] ++ ks) (sym (spells_by (columns c) c col [] (λ k more. pieces columns width k more cs) stop))

  -- in a full row nothing is left to draw
  none_in_full : (reached : ℕ) (cs : List ℕ) → cond (leb width reached) [] (pieces columns width reached [] cs) ≡ pieces columns width reached [] (cond (leb width reached) [] cs)
  none_in_full reached cs = grind (arith, nat_tests)

  -- a label goes out, and drawing stops where it fills the row
  pub label_first : (c col : ℕ) (cs : List ℕ) → has_label (columns c) ≡ true
      → let l = take (width - col) (spelling c) in
      pieces columns width col [] (c ∷ cs) ≡ reversed l [] ++ pieces columns width (col + length l) [] (cond (leb width (col + length l)) [] cs)
  label_first c col cs e =
      let l = take (width - col) (spelling c) in
      spells_by (columns c) c col [] (λ k more. pieces columns width k more cs) e ∙ ap (reversed l) (none_in_full (col + length l) cs)

  -- the characters of a run that fit join what is to be sent
  run_joins : (n : ℕ) (run : List ℕ) (col : ℕ) (front rest : List ℕ) → Unlabelled columns run → col + text_columns columns (take n run) ≤ width
      → pieces columns width col front (run ++ rest) ≡ pieces columns width (col + text_columns columns (take n run)) (front ++ take n run) (drop n run ++ rest)
  run_joins zero run col front rest plain fits = simp (add-zero, append-nil)
  run_joins (suc n) [] col front rest plain fits = simp (add-zero, append-nil)
  run_joins (suc n) (c ∷ cs) col front rest plain fits =
      character_joins c col front (cs ++ rest) plain.0 (omega arith)
      ∙ run_joins n cs (col + char_columns columns c) (front ++ (c ∷ [])) rest plain.1 (omega arith)
      ∙ simp (add_assoc, append_assoc)

  -- what is drawn of a run of which `count` characters fit, and what is left then
  pub run_drawn : (run after : List ℕ) (count col taken : ℕ) → Unlabelled columns run → StopsRun columns after
      → taken ≡ text_columns columns (take count run) → col + taken ≤ width → (count < length run → width < col + taken + char_columns columns (get_or run count 0))
      → pieces columns width col [] (run ++ after) ≡ sent (take count run) [] ++ pieces columns width (col + taken) [] (cond (ltb count (length run)) [] after)
  run_drawn run after count col taken plain stop e fits past =
      run_joins count run col [] after plain (omega arith)
      ∙ ap (λ n. pieces columns width (col + n) (take count run) (drop count run ++ after)) (sym e)
      ∙ by_rest (ltb count (length run)) refl
    where
      by_rest : (b : Bool) → ltb count (length run) ≡ b
          → pieces columns width (col + taken) (take count run) (drop count run ++ after) ≡ sent (take count run) [] ++ pieces columns width (col + taken) [] (cond b [] after)
      by_rest true t =
          let there = ltb-true count (length run) t in
          ap (λ cs. pieces columns width (col + taken) (take count run) (cs ++ after)) (drop_more run count 0 there)
          ∙ character_stops (get_or run count 0) (col + taken) (take count run) (drop (count + 1) run ++ after) (unlabelled_at columns run count plain there) (past there)
          ∙ sent_first (take count run) (cond (ltb (col + taken) width) (clear ∷ []) [])
      by_rest false t =
          ap (λ cs. pieces columns width (col + taken) (take count run) (cs ++ after)) (drop_all count run (ltb-false count (length run) t))
          ∙ run_first (col + taken) (take count run) after stop
