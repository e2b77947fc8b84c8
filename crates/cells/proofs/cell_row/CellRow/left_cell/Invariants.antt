use Rattle.std.proofs.Common.{◌≡◌}
use Rattle.glass.specs.Calls.{cell_left_of}
use Rattle.cells.specs.Shows.{shows}
use Rattle.cells.proofs.cell_row.CellRow.left_cell.Given as goal

abbrev pub invariant-loop-column : goal.invariant-loop-column
invariant-loop-column g l = cell_left_of l.column (shows l.self).cells ≡ cell_left_of l.self.column (shows l.self).cells
