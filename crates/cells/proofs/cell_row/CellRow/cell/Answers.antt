use Rattle.std.proofs.Common.{◌∙◌}
use Rattle.cells.specs.Shows.{records}
use Rattle.cells.proofs.SlotCells.{got, slot_at}
use Rattle.cells.proofs.cell_row.CellRow.cell.Goals as goal

pub returns : goal.returns
returns g c =
    let s = c.args.self.now in
    record { value = c.copied.ensures ∙ got c.get.result c.deref.result.now s.slots.items c.args.column c.deref.ensures.0 c.get.ensures.lookup.3 ∙ slot_at s.slots.items (records s) s.pen s.column c.args.column }
