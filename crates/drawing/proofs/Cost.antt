-- What a drawing costs. A column that is left pays for two: a label has four columns at least, and they pay for its
-- pens, for its text, and for the text of the run before it.
use Rattle.std.proofs.Common.{ℕ, suc, ◌+◌, ◌-◌, ◌*◌, ◌≤◌, min, cond, ltb, List, [], ◌∷◌, ◌++◌, length, take, drop, arith, length-append, length-drop, length-take}
use Rattle.std.proofs.lemmas.Bool.Decides.{nat_tests}
use Rattle.font.specs.declared.Columns.{Columns}
use Rattle.font.specs.declared.Columns.TheVariants.{NoWidth, Zero, One, Two}
use Rattle.font.specs.Labels.{label as spelling}
use Rattle.font.proofs.Labels.{label_bound}
use Rattle.glass.specs.Calls.{GlassCall, place, clear, cost_of_all}
use Rattle.glass.proofs.Drew.{cost_append}
use Rattle.drawing.specs.Drawing.{sent, ended, joined, spelled, piece, pieces, text_start, cursor_column, DrawingCosts}

cost_sent : (run : List ℕ) (ks : List GlassCall) → cost_of_all (sent run ks) ≤ length run + 1 + cost_of_all ks
cost_sent [] ks = omega arith
cost_sent (c ∷ cs) ks = omega arith

cost_cleared : (width col : ℕ) → cost_of_all (cond (ltb col width) (clear ∷ []) []) ≤ 1
cost_cleared width col = grind (arith, nat_tests)

cost_ended : (width col : ℕ) (run : List ℕ) → cost_of_all (ended width col run) ≤ length run + 2
cost_ended width col run = omega (arith, cost_sent run (cond (ltb col width) (clear ∷ []) []), cost_cleared width col)

module _ (columns : ℕ → Columns) (width : ℕ) where
  abbrev Within : List ℕ → Type 0
  Within cs = (col : ℕ) (run : List ℕ) → cost_of_all (pieces columns width col run cs) ≤ length run + length cs + 2 * (width - col) + 3

  cost_joined : (cs : List ℕ) → Within cs → (c n col : ℕ) (run : List ℕ)
      → cost_of_all (joined width col run n (λ k. pieces columns width k (run ++ (c ∷ [])) cs)) ≤ length run + suc (length cs) + 2 * (width - col) + 3
  cost_joined cs on c n col run =
      let a = cost_ended width col run in
      let b = on (col + n) (run ++ (c ∷ [])) in
      let m = length-append run (c ∷ []) in
      grind (arith, nat_tests)

  cost_spelled : (cs : List ℕ) → Within cs → (c col : ℕ) → cost_of_all (spelled width col (take (width - col) (spelling c)) (λ k. pieces columns width k [] cs)) ≤ length cs + 2 * (width - col) + 3
  cost_spelled cs on c col =
      let shown = take (width - col) (spelling c) in
      let n = length-take (width - col) (spelling c) in
      let four = (label_bound c).0 in
      let b = on (col + length shown) [] in
      grind (arith, nat_tests)

  cost_piece : (cs : List ℕ) → Within cs → (w : Columns) (c col : ℕ) (run : List ℕ)
      → cost_of_all (piece w width col run c (λ k more. pieces columns width k more cs)) ≤ length run + suc (length cs) + 2 * (width - col) + 3
  cost_piece cs on NoWidth c col run =
      let ks = spelled width col (take (width - col) (spelling c)) (λ k. pieces columns width k [] cs) in
      omega (arith, cost_sent run ks, cost_spelled cs on c col)
  cost_piece cs on Zero c col run = cost_joined cs on c 0 col run
  cost_piece cs on One c col run = cost_joined cs on c 1 col run
  cost_piece cs on Two c col run = cost_joined cs on c 2 col run

  pieces_cost : (cs : List ℕ) → Within cs
  pieces_cost [] col run = omega (arith, cost_ended width col run)
  pieces_cost (c ∷ cs) col run = cost_piece cs (pieces_cost cs) (columns c) c col run

pub drawing_costs : DrawingCosts
drawing_costs columns label d width short narrow few =
    let cs = drop d.offset d.line.text in
    let ks = pieces columns width (text_start label) [] cs in
    let n = length-drop d.offset d.line.text in
    let p = pieces_cost columns width cs (text_start label) [] in
    let a = cost_append ks (place (min (cursor_column columns label d) (width - 1)) ∷ []) in
    let m = length-append label (0x20 ∷ []) in
    omega arith
