-- A drawing does not depend on what the row showed before.
use Rattle.std.proofs.Common.{◌≡◌, ℕ, ◌+◌, ◌-◌, ◌≤◌, min, true, cond, ◌&&◌, ltb, leb, List, [], ◌∷◌, ◌++◌, length, take, drop, sym, refl, ap, ◌∙◌, arith, length-append, length-take, ltb-false, leb-true}
use lib.ListN.{length-replicate}
use Rattle.std.proofs.lemmas.Bool.{and_parts, cond_both}
use Rattle.std.proofs.lemmas.Bool.Decides.{nat_tests}
use Rattle.font.specs.declared.Columns.{Columns}
use Rattle.font.specs.declared.Columns.TheVariants.{NoWidth, Zero, One, Two}
use Rattle.font.specs.Labels.{label as spelling}
use Rattle.glass.specs.declared.PenChange.{PenChange}
use Rattle.glass.specs.declared.PenChange.TheVariants.{Plain, Prompt, ReverseOn, ReverseOff}
use Rattle.glass.specs.Row.{Row, blank_cell, blank_row, width_of}
use Rattle.glass.specs.Calls.{GlassCall, place, pen, clear, apply, apply_all, with_text, with_character, changed_pen, narrow, wide}
use Rattle.glass.proofs.Front.{Inside, Front, front, same_front, finished, front_text, text_width, inside_text, front_of_text, full_is}
use Rattle.glass.proofs.Text.{text_append, text_column, fits_column, AllOne, all_append, all_take}
use Rattle.drawing.proofs.Ones.{label_one}
use Rattle.draft.specs.Draft.{Draft}
use Rattle.drawing.specs.Ascii.{printable}
use Rattle.drawing.specs.Drawing.{sent, ended, joined, spelled, piece, pieces, text_start, cursor_column, drawing, DrawingForgets}
use Rattle.glass.proofs.Drew.{apply_append}

pub sends : (columns : ℕ → Columns) (run : List ℕ) (ks : List GlassCall) (r : Row) → apply_all columns (sent run ks) r ≡ apply_all columns ks (with_text columns run r)
sends columns [] ks r = refl
sends columns (c ∷ cs) ks r = refl

module _ (columns : ℕ → Columns) (ascii : (c : ℕ) → 0x20 ≤ c → c ≤ 0x7E → columns c ≡ One) (width : ℕ) where
  -- two rows that agree left of the cursor
  pub record Same (r s : Row) : Type 0 where
    pub inside : Inside r
    pub fronts : front r ≡ front s
    pub wide : width_of r ≡ width

  same_column : {r s : Row} → Same r s → r.column ≡ s.column
  same_column a = ap (λ (f : Front). f.column) a.fronts

  same_width : {r s : Row} → Same r s → width_of r ≡ width_of s
  same_width a = ap (λ (f : Front). f.width) a.fronts

  same_text : (cs : List ℕ) (r s : Row) → Same r s → Same (with_text columns cs r) (with_text columns cs s)
  same_text cs r s a = record {
    inside = inside_text columns cs r a.inside;
    fronts = front_of_text columns cs r ∙ ap (front_text columns cs) a.fronts ∙ sym (front_of_text columns cs s);
    wide = text_width columns cs r ∙ a.wide;
  }

  same_pen : (p : PenChange) (r s : Row) → Same r s → Same (apply columns (pen p) r) (apply columns (pen p) s)
  same_pen p r s a = record {
    inside = a.inside;
    fronts = ap (λ (f : Front). record { width = f.width; cells = f.cells; pen = changed_pen p f.pen; column = f.column }) a.fronts;
    wide = a.wide;
  }

  same_full : (r s : Row) → Same r s → width ≤ r.column → r ≡ s
  same_full r s a h =
      full_is r (omega (arith, a.wide)) ∙ ap finished a.fronts
      ∙ sym (full_is s (omega (arith, a.wide, same_column a, same_width a)))

  same_end : (col : ℕ) (r s : Row) → Same r s → r.column ≡ col → apply_all columns (cond (ltb col width) (clear ∷ []) []) r ≡ apply_all columns (cond (ltb col width) (clear ∷ []) []) s
  same_end col r s a e =
      cond_both (ltb col width) (clear ∷ []) [] (λ ks. apply_all columns ks r ≡ apply_all columns ks s) (λ t. ap finished a.fronts)
      (λ t. same_full r s a (omega (arith, ltb-false)))

  same_ended : (run : List ℕ) (col : ℕ) (r s : Row) → Same r s → (with_text columns run r).column ≡ col → apply_all columns (ended width col run) r ≡ apply_all columns (ended width col run) s
  same_ended run col r s a e =
      sends columns run _ r ∙ same_end col (with_text columns run r) (with_text columns run s) (same_text run r s a) e ∙ sym (sends columns run _ s)

  -- where the cursor is after one more character of the run
  pub run_column : (run : List ℕ) (c col n : ℕ) (w : Columns) (r : Row) → columns c ≡ w → (with_character w c (with_text columns run r)).column ≡ col + n → (with_text columns (run ++ (c ∷ [])) r).column ≡ col + n
  run_column run c col n w r e h =
      ap (λ (x : Row). x.column) (text_append columns run (c ∷ []) r) ∙ ap (λ (v : Columns). (with_character v c (with_text columns run r)).column) e ∙ h

  -- the pieces of a text make the same of two rows that agree
  abbrev Alike : List ℕ → Type 0
  Alike cs = (run : List ℕ) (col : ℕ) (r s : Row) → Same r s → (with_text columns run r).column ≡ col
      → apply_all columns (pieces columns width col run cs) r ≡ apply_all columns (pieces columns width col run cs) s

  joined_same : (cs : List ℕ) → Alike cs → (c : ℕ) (run : List ℕ) (col n : ℕ) (w : Columns) (r s : Row) → Same r s → (with_text columns run r).column ≡ col → columns c ≡ w
      → (col + n ≤ width → (with_character w c (with_text columns run r)).column ≡ col + n)
      → apply_all columns (joined width col run n (λ k. pieces columns width k (run ++ (c ∷ [])) cs)) r ≡ apply_all columns (joined width col run n (λ k. pieces columns width k (run ++ (c ∷ [])) cs)) s
  joined_same cs on c run col n w r s a e q h =
      cond_both (ltb width (col + n)) (ended width col run) (pieces columns width (col + n) (run ++ (c ∷ [])) cs) (λ ks. apply_all columns ks r ≡ apply_all columns ks s)
      (λ t. same_ended run col r s a e) (λ t. on (run ++ (c ∷ [])) (col + n) r s a (run_column run c col n w r q (h (ltb-false width (col + n) t))))

  spelled_same : (cs : List ℕ) → Alike cs → (l : List ℕ) (col : ℕ) (r s : Row) → Same r s → r.column ≡ col → AllOne columns l → col + length l ≤ width
      → apply_all columns (spelled width col l (λ k. pieces columns width k [] cs)) r ≡ apply_all columns (spelled width col l (λ k. pieces columns width k [] cs)) s
  spelled_same cs on l col r s a e o h =
      let a3 = same_pen ReverseOff _ _ (same_text l _ _ (same_pen ReverseOn r s a)) in
      let k = text_column columns l (apply columns (pen ReverseOn) r) o (omega (arith, a.wide)) in
      let after = λ (x : Row). apply columns (pen ReverseOff) (with_text columns l (apply columns (pen ReverseOn) x)) in
      cond_both (leb width (col + length l)) [] (pieces columns width (col + length l) [] cs) (λ ks. apply_all columns ks (after r) ≡ apply_all columns ks (after s))
      (λ t. same_full _ _ a3 (omega (arith, k, leb-true))) (λ t. on [] (col + length l) _ _ a3 (omega (arith, k)))

  by_width : (cs : List ℕ) → Alike cs → (w : Columns) (c : ℕ) (run : List ℕ) (col : ℕ) (r s : Row) → columns c ≡ w → Same r s → (with_text columns run r).column ≡ col
      → apply_all columns (piece w width col run c (λ k more. pieces columns width k more cs)) r ≡ apply_all columns (piece w width col run c (λ k more. pieces columns width k more cs)) s
  by_width cs on NoWidth c run col r s q a e =
      let b = same_text run r s a in
      let l = take (width - col) (spelling c) in
      let n = length-take (width - col) (spelling c) in
      let m : col ≤ width = omega (arith, b.inside, b.wide) in
      (sends columns run _ r ∙ spelled_same cs on l col (with_text columns run r) (with_text columns run s) b e (all_take columns (width - col) (spelling c) (label_one columns ascii c)) (omega arith) ∙ sym (sends columns run _ s))
  by_width cs on Zero c run col r s q a e = (joined_same cs on c run col 0 Zero r s a e q (λ h. omega arith))
  by_width cs on One c run col r s q a e =
      let b = same_text run r s a in
      (joined_same cs on c run col 1 One r s a e q (λ h. fits_column 1 (narrow c (with_text columns run r)) (with_text columns run r) (omega (arith, b.wide)) ∙ ap (λ n. n + 1) e))
  by_width cs on Two c run col r s q a e =
      let b = same_text run r s a in
      (joined_same cs on c run col 2 Two r s a e q (λ h. fits_column 2 (wide c (with_text columns run r)) (with_text columns run r) (omega (arith, b.wide)) ∙ ap (λ n. n + 2) e))

  pub pieces_same : (cs : List ℕ) → Alike cs
  pieces_same [] run col r s a e = same_ended run col r s a e
  pieces_same (c ∷ cs) run col r s a e = by_width cs (pieces_same cs) (columns c) c run col r s refl a e

  pub printable_one : (cs : List ℕ) → printable cs ≡ true → AllOne columns cs
  printable_one [] e = tt
  printable_one (c ∷ cs) e =
      let p = and_parts (leb 0x20 c && leb c 0x7E) (printable cs) e in
      (ascii c (grind (arith, nat_tests)) (grind (arith, nat_tests)), printable_one cs p.1)

  abbrev started : Row → Row
  started r = apply columns (pen Prompt) (apply columns (place 0) r)

  same_start : (r s : Row) → width_of r ≡ width → width_of s ≡ width → Same (started r) (started s)
  same_start r s e e' = record {
    inside = omega arith;
    fronts = same_front (started r).pen 0 (e ∙ sym e') refl;
    wide = e;
  }

  pub drawn_same : (label : List ℕ) (d : Draft) (r s : Row) → printable label ≡ true → text_start label ≤ width → width_of r ≡ width → width_of s ≡ width
      → apply_all columns (drawing columns label d width) r ≡ apply_all columns (drawing columns label d width) s
  drawn_same label d r s p h e e' =
      let space : AllOne columns (0x20 ∷ []) = (ascii 0x20 (omega arith) (omega arith), tt) in
      let head = 0x20 ∷ 0x20 ∷ (label ++ (0x20 ∷ [])) in
      let ones : AllOne columns head = (space.0, (space.0, all_append columns label (0x20 ∷ []) (printable_one label p) space)) in
      let n = length-append label (0x20 ∷ []) in
      let a0 = same_start r s e e' in
      let a1 = same_text head _ _ a0 in
      let a2 = same_pen Plain _ _ a1 in
      let a3 = same_text (0x20 ∷ []) _ _ a2 in
      let k1 = text_column columns head (started r) ones (omega (arith, a0.wide)) in
      let w1 = text_width columns head (started r) in
      let k2 = text_column columns (0x20 ∷ []) (apply columns (pen Plain) (with_text columns head (started r))) space (omega (arith, k1, w1)) in
      let tail = place (min (cursor_column columns label d) (width - 1)) ∷ [] in
      apply_append columns (pieces columns width (text_start label) [] (drop d.offset d.line.text)) tail _
      ∙ ap (apply_all columns tail) (pieces_same (drop d.offset d.line.text) [] (text_start label) _ _ a3 (omega (arith, k1, k2)))
      ∙ sym (apply_append columns (pieces columns width (text_start label) [] (drop d.offset d.line.text)) tail _)

pub drawing_forgets : DrawingForgets
drawing_forgets columns ascii label d r p h =
    drawn_same columns ascii (width_of r) label d r (blank_row (width_of r)) p h refl (length-replicate (width_of r) blank_cell)
