use Rattle.std.proofs.Common.{◌≡◌, ◌+◌, ◌≤◌, drop}
use Rattle.glass.specs.Calls.{with_text}
use Rattle.cells.specs.Shows.{shows, mark_records}
use Rattle.cells.proofs.cell_row.CellRow.put_text.Given as goal

abbrev pub invariant-loop-c : goal.invariant-loop-c
invariant-loop-c g l =
    (with_text g.F.Font.columns (drop l.c-index l.characters) (shows l.self) ≡ with_text g.F.Font.columns l.characters (shows l.initial.self))
    × (mark_records l.self ≤ mark_records l.initial.self + l.c-index)
