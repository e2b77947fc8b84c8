-- Cells that fit, and cells that are lost.
use Rattle.std.proofs.Common.{◌≡◌, ℕ, ◌+◌, ◌<◌, ◌≤◌, leb, List, sym, ◌∙◌}
use Rattle.std.proofs.lemmas.Bool.{cond-true, cond-false, le-leb, lt-leb}
use Rattle.glass.specs.declared.Pen.{Pen}
use Rattle.glass.specs.Row.{Row, Cell, width_of}
use Rattle.glass.specs.Calls.{at_column, with_cells, if_it_fits}

same_row : {cs ds : List Cell} {p q : Pen} {j k : ℕ} → cs ≡ ds → p ≡ q → j ≡ k → ◌≡◌ {A = Row} (record { cells = cs; pen = p; column = j }) (record { cells = ds; pen = q; column = k })
same_row a b d = cc

pub fits : (n : ℕ) (cells : List Cell) (r new : Row) → r.column + n ≤ width_of r → new.cells ≡ cells → new.pen ≡ r.pen → new.column ≡ r.column + n → new ≡ if_it_fits n cells r
fits n cells r new h a b d =
    same_row a b d ∙ sym (cond-true (leb (r.column + n) (width_of r)) (at_column (r.column + n) (with_cells cells r)) r (le-leb (r.column + n) (width_of r) h))

pub lost : (n : ℕ) (cells : List Cell) (r : Row) → width_of r < r.column + n → r ≡ if_it_fits n cells r
lost n cells r h = sym (cond-false (leb (r.column + n) (width_of r)) (at_column (r.column + n) (with_cells cells r)) r (lt-leb (r.column + n) (width_of r) h))
