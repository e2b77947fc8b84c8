use Rattle.std.proofs.Common.{length, set, ap, ◌∙◌, arith}
use Rattle.std.proofs.lemmas.List.{length-set}
use Rattle.arrayvec.proofs.ArrayVecLemmas.{items-with_items}
use Rattle.cells.specs.Shows.{records}
use Rattle.cells.proofs.SlotCells.{row_is, put_slot}
use Rattle.cells.proofs.cell_row.CellRow.put.Goals as goal

pub returns-clause-row : goal.returns-clause-row
returns-clause-row g c =
    let s = c.args.self.now in
    let at = c.args.at in
    let now = c.deref_mut.result.now in
    let e = c.deref_mut.ensures.value in
    row_is c.remove.new.self.table.items s.pen s.column
    (items-with_items s.slots (set now at c.args.slot) (length-set now at c.args.slot ∙ ap length e) ∙ ap (λ xs. set xs at c.args.slot) e)
    (length-set s.slots.items at c.args.slot)
    (put_slot s.slots.items (length s.slots.items) (records s) c.remove.new.self.table.items at c.args.slot c.requires (omega arith) c.remove.ensures.only)
