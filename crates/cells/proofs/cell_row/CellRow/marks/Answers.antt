use Rattle.std.proofs.Common.{length, ◌∙◌}
use Rattle.cells.specs.Shows.{records}
use Rattle.cells.proofs.SlotCells.{marks_at}
use Rattle.cells.proofs.cell_row.CellRow.marks.Goals as goal

pub returns : goal.returns
returns g c =
    let s = c.args.self.now in
    record { value = c.of.ensures.value ∙ marks_at s.slots.items (length s.slots.items) (records s) s.inside c.args.column }
