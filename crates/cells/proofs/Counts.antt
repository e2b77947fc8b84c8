-- How many marks a row has: as many as its table, since none stands past the width.
use Rattle.std.proofs.Common.{◌≡◌, ℕ, zero, suc, ◌+◌, ◌<◌, ◌≤◌, Bool, ltb, List, [], ◌∷◌, map, length, sum_by, filter, sym, refl, ap, ◌∙◌, subst, ⊎_elim, arith}
use Rattle.std.proofs.lemmas.List.{length-map}
use Rattle.std.proofs.lemmas.List.FromFn.{sum_by-map-range_with_len_more}
use Rattle.std.proofs.lemmas.Bool.Decides.{nat_tests}
use Rattle.std.proofs.lemmas.Bool.{cases_lt, lt-ltb, eq-eqb, ne_eqb}
use Rattle.glass.specs.Row.{Cell}
use Rattle.cells.specs.declared.table.Slot.{Slot}
use Rattle.cells.specs.declared.table.Mark.{Mark}
use Rattle.cells.specs.Slots.{code_of, stands_at, marks_of, cell_at, cells_of}

abbrev before : ℕ → Mark → Bool
before k m = ltb m.column k

-- one column more
one_more : (k : ℕ) (ms : List Mark) → length (filter (before (k + 1)) ms) ≡ length (filter (before k) ms) + length (filter (stands_at k) ms)
one_more k [] = omega arith
one_more k (m ∷ ms) = let i = one_more k ms in grind (arith, nat_tests)

none_before : (ms : List Mark) → length (filter (before 0) ms) ≡ 0
none_before [] = refl
none_before (m ∷ ms) = let i = none_before ms in grind (arith, nat_tests)

abbrev marks_in : List Slot → ℕ → List Mark → ℕ
marks_in slots w ms = sum_by (λ (x : Cell). length x.marks) (cells_of slots w ms)

row_more : (slots : List Slot) (w : ℕ) (ms : List Mark) → marks_in slots w ms ≡ length (filter (before w) ms) → marks_in slots (w + 1) ms ≡ length (filter (before (w + 1)) ms)
row_more slots w ms i =
    let s = sum_by-map-range_with_len_more (λ (x : Cell). length x.marks) (cell_at slots ms) 0 w w (omega arith) in
    let n = length-map (filter (stands_at w) ms) code_of in
    s ∙ omega (arith, i, n, one_more w ms)

on_row : (slots : List Slot) (w : ℕ) (ms : List Mark) → marks_in slots w ms ≡ length (filter (before w) ms)
on_row slots zero ms = sym (none_before ms)
on_row slots (suc w) ms =
    let q : w + 1 ≡ suc w = omega arith in
    subst (λ n. marks_in slots n ms ≡ length (filter (before n) ms)) q (row_more slots w ms (on_row slots w ms))

kept_whole : (w : ℕ) (ms : List Mark) → ((k : ℕ) → w ≤ k → marks_of k ms ≡ []) → filter (before w) ms ≡ ms
kept_whole w [] h = refl
kept_whole w (m ∷ ms) h =
    ⊎_elim
    (λ (l : m.column < w).
    let e = lt-ltb m.column w l in
    rw e (ap (λ xs. m ∷ xs) (kept_whole w ms (λ k b. let d = ne_eqb m.column k (λ q. omega arith) in let n = h k b in rw d at n))))
    (λ (l : w ≤ m.column). let e = eq-eqb m.column m.column refl in let n = h m.column l in let n = rw e at n in absurd (let z : length (m.code ∷ map code_of (filter (stands_at m.column) ms)) ≡ 0 = ap length n in omega arith))
    (cases_lt m.column w)

pub marks_counted : (slots : List Slot) (w : ℕ) (ms : List Mark) → ((k : ℕ) → w ≤ k → marks_of k ms ≡ []) → marks_in slots w ms ≡ length ms
marks_counted slots w ms h = on_row slots w ms ∙ ap length (kept_whole w ms h)
