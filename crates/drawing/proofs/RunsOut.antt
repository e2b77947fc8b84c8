-- The characters before the first that shows as its label.
use Rattle.std.proofs.Common.{◌≡◌, ℕ, ◌+◌, ◌<◌, Bool, true, false, cond, not, List, [], ◌∷◌, ◌++◌, length, take, drop, one-add, refl, sym, arith}
use Rattle.std.proofs.lemmas.List.{take-append-drop}
use Rattle.std.specs.List.{prefix_len}
use Rattle.font.specs.declared.Columns.{Columns}
use Rattle.font.specs.Labels.{has_label}
use Rattle.drawing.specs.Piece.{Unlabelled, StopsRun}

module _ (columns : ℕ → Columns) where
  abbrev pub run_length : List ℕ → ℕ
  run_length cs = prefix_len (λ c. not (has_label (columns c))) cs

  parts : (cs : List ℕ) → Unlabelled columns (take (run_length cs) cs) × StopsRun columns (drop (run_length cs) cs)
  parts [] = (tt, tt)
  parts (c ∷ cs) = by (has_label (columns c)) refl (parts cs)
    where
      by : (b : Bool) → has_label (columns c) ≡ b → Unlabelled columns (take (run_length cs) cs) × StopsRun columns (drop (run_length cs) cs)
          → let n = cond (not b) (1 + run_length cs) 0 in Unlabelled columns (take n (c ∷ cs)) × StopsRun columns (drop n (c ∷ cs))
      by true e rest = (tt, e)
      by false e rest = rw one-add ((e, rest.0), rest.1)

  -- the run that stands first, where the first character is not shown as its label
  pub run_first : (c : ℕ) (cs : List ℕ) → has_label (columns c) ≡ false
      → let n = run_length (c ∷ cs) in
      (c ∷ cs ≡ take n (c ∷ cs) ++ drop n (c ∷ cs)) × (0 < length (take n (c ∷ cs))) × Unlabelled columns (take n (c ∷ cs)) × StopsRun columns (drop n (c ∷ cs))
  run_first c cs plain =
      let all = parts (c ∷ cs) in
      let some : 0 < length (take (run_length (c ∷ cs)) (c ∷ cs)) = rw (plain, one-add) (omega arith) in
      (sym (take-append-drop (run_length (c ∷ cs)) (c ∷ cs)), some, all.0, all.1)
