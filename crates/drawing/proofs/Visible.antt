-- A character that shows whole left of the cursor goes on showing whole.
use Rattle.std.proofs.Common.{◌≡◌, ℕ, zero, suc, ◌+◌, ◌-◌, ◌<◌, ◌≤◌, cond, ltb, leb, List, [], ◌∷◌, ◌++◌, length, get_or, take, replicate, Some, Option, sym, refl, ap, ◌∙◌, subst, inl, inr, arith, length-append, length-take}
use Rattle.std.proofs.lemmas.Bool.{cases_Bool, cond_both}
use Rattle.std.proofs.lemmas.List.{get_or-take, get_or_append_left}
use Rattle.glass.specs.declared.PenChange.TheVariants.{ReverseOn, ReverseOff}
use Rattle.glass.proofs.Text.{text_append}
use Rattle.drawing.specs.Drawing.{ended, joined, spelled, piece, pieces}
use Rattle.drawing.proofs.Forgets.{sends}
use Rattle.font.specs.declared.Columns.{Columns}
use Rattle.font.specs.declared.Columns.TheVariants.{NoWidth, Zero, One, Two}
use Rattle.font.specs.Labels.{label as spelling, columns_by}
use Rattle.glass.specs.Row.{Row, Cell, blank_cell, is_right_half, width_of}
use Rattle.glass.specs.declared.Pen.{Pen}
use Rattle.glass.specs.Calls.{cell_left_of, pen, clear, apply, apply_all, with_text, cleared}
use Rattle.glass.proofs.Front.{Inside, inside_text}
use Rattle.glass.proofs.Keeps.{Still, still, Keeps, keeps_then, keeps_with, keeps_text}
use Rattle.drawing.specs.Shows.{ShowsBy}

pub left_kept : (r s : Row) → Keeps r s → (x : ℕ) → x ≤ r.column → cell_left_of x s.cells ≡ cell_left_of x r.cells
left_kept r s p zero h = refl
left_kept r s p (suc x) h =
    let e = (p.cells x (omega arith)).ink in
    let o = left_kept r s p x (omega arith) in
    ap (λ i. cond (is_right_half i) (cell_left_of x s.cells) (Some x)) e
    ∙ ap (λ (v : Option ℕ). cond (is_right_half (get_or r.cells x blank_cell).ink) v (Some x)) o

pub left_below : (x j : ℕ) (cells : List Cell) → cell_left_of x cells ≡ Some j → j < x
left_below zero j cells e = cc
left_below (suc x) j cells e =
    elim (cases_Bool (is_right_half (get_or cells x blank_cell).ink)) [
      | inl t ↦ let h = left_below x j cells (rw t at e) in omega arith
      | inr t ↦ let q : Some x ≡ Some j = rw t at e in let n : x ≡ j = cc in omega arith
    ]

pub shows_kept : (w : Columns) (c x : ℕ) (r s : Row) → Keeps r s → x + columns_by w c ≤ r.column → ShowsBy w r.cells x c → ShowsBy w s.cells x c
shows_kept NoWidth c x r s p h a = record {
  each_character = λ k l. (p.cells (x + k) (omega arith)).ink ∙ a.each_character k l;
  each_reversed = λ k l. ap (λ (q : Pen). q.reversed) (p.cells (x + k) (omega arith)).pen ∙ a.each_reversed k l;
}
shows_kept Zero c x r s p h a =
    let j = left_below x a.cell r.cells a.nearest in
    let m = p.cells a.cell (omega arith) in
    let old = (get_or r.cells a.cell blank_cell).marks in
    let n : length (get_or s.cells a.cell blank_cell).marks ≡ length old + length m.more = ap length m.marks ∙ length-append old m.more in
    record {
      cell = a.cell;
      nearest = left_kept r s p x (omega arith) ∙ a.nearest;
      which = a.which;
      among = omega (arith, n, a.among);
      is_there = ap (λ (ms : List ℕ). get_or ms a.which 0) m.marks ∙ get_or_append_left old m.more 0 a.which a.among ∙ a.is_there;
    }
shows_kept One c x r s p h a = (p.cells x (omega arith)).ink ∙ a
shows_kept Two c x r s p h a = ((p.cells x (omega arith)).ink ∙ a.0, (p.cells (x + 1) (omega arith)).ink ∙ a.1)

keeps_same : (r : Row) → Keeps r r
keeps_same r = record { on = omega arith; cells = λ k h. still (get_or r.cells k blank_cell) }

keeps_cleared : (r : Row) → Inside r → Keeps r (cleared r)
keeps_cleared r f = record {
  on = omega arith;
  cells = λ k h.
      let n : length (take r.column r.cells) ≡ r.column = length-take r.column r.cells ∙ omega arith in
      let e = get_or_append_left (take r.column r.cells) (replicate (width_of r - r.column) blank_cell) blank_cell k (omega (arith, n)) ∙ get_or-take r.column r.cells k blank_cell h in
      subst (λ (x : Cell). Still (get_or r.cells k blank_cell) x) (sym e) (still (get_or r.cells k blank_cell));
}

module _ (columns : ℕ → Columns) (width : ℕ) where
  abbrev Kept : List ℕ → Type 0
  Kept cs = (run : List ℕ) (col : ℕ) (r : Row) → Inside r → Keeps (with_text columns run r) (apply_all columns (pieces columns width col run cs) r)

  ended_keeps : (run : List ℕ) (col : ℕ) (r : Row) → Inside r → Keeps (with_text columns run r) (apply_all columns (ended width col run) r)
  ended_keeps run col r f =
      subst (λ (x : Row). Keeps (with_text columns run r) x) (sym (sends columns run (cond (ltb col width) (clear ∷ []) []) r))
      (cond_both (ltb col width) (clear ∷ []) [] (λ ks. Keeps (with_text columns run r) (apply_all columns ks (with_text columns run r)))
      (λ _. keeps_cleared (with_text columns run r) (inside_text columns run r f)) (λ _. keeps_same (with_text columns run r)))

  joined_keeps : (cs : List ℕ) → Kept cs → (c n : ℕ) (run : List ℕ) (col : ℕ) (r : Row) → Inside r → Keeps (with_text columns run r) (apply_all columns (joined width col run n (λ k. pieces columns width k (run ++ (c ∷ [])) cs)) r)
  joined_keeps cs on c n run col r f =
      let more = subst (λ (x : Row). Keeps x (apply_all columns (pieces columns width (col + n) (run ++ (c ∷ [])) cs) r)) (text_append columns run (c ∷ []) r) (on (run ++ (c ∷ [])) (col + n) r f) in
      cond_both (ltb width (col + n)) (ended width col run) (pieces columns width (col + n) (run ++ (c ∷ [])) cs) (λ ks. Keeps (with_text columns run r) (apply_all columns ks r))
      (λ _. ended_keeps run col r f) (λ _. keeps_then _ _ _ (keeps_with (columns c) c (with_text columns run r)) more)

  spelled_keeps : (cs : List ℕ) → Kept cs → (l : List ℕ) (col : ℕ) (r : Row) → Inside r → Keeps r (apply_all columns (spelled width col l (λ k. pieces columns width k [] cs)) r)
  spelled_keeps cs on l col r f =
      let r1 = apply columns (pen ReverseOn) r in
      let f1 : Inside r1 = f in
      let r2 = with_text columns l r1 in
      let f2 = inside_text columns l r1 f1 in
      let k2 = keeps_text columns l r1 in
      let r3 = apply columns (pen ReverseOff) r2 in
      let k3 : Keeps r r3 = record { on = k2.on; cells = k2.cells } in
      cond_both (leb width (col + length l)) [] (pieces columns width (col + length l) [] cs) (λ ks. Keeps r (apply_all columns ks r3)) (λ _. k3)
      (λ _. keeps_then r r3 _ k3 (on [] (col + length l) r3 f2))

  piece_keeps : (cs : List ℕ) → Kept cs → (w : Columns) (c : ℕ) (run : List ℕ) (col : ℕ) (r : Row) → Inside r → Keeps (with_text columns run r) (apply_all columns (piece w width col run c (λ k more. pieces columns width k more cs)) r)
  piece_keeps cs on NoWidth c run col r f =
      subst (λ (x : Row). Keeps (with_text columns run r) x) (sym (sends columns run (spelled width col (take (width - col) (spelling c)) (λ k. pieces columns width k [] cs)) r))
      (spelled_keeps cs on (take (width - col) (spelling c)) col (with_text columns run r) (inside_text columns run r f))
  piece_keeps cs on Zero c run col r f = joined_keeps cs on c 0 run col r f
  piece_keeps cs on One c run col r f = joined_keeps cs on c 1 run col r f
  piece_keeps cs on Two c run col r f = joined_keeps cs on c 2 run col r f

  -- what stands in the row when a piece is drawn stands in it when the drawing ends
  pub pieces_keep : (cs : List ℕ) → Kept cs
  pieces_keep [] run col r f = ended_keeps run col r f
  pieces_keep (c ∷ cs) run col r f = piece_keeps cs (pieces_keep cs) (columns c) c run col r f
