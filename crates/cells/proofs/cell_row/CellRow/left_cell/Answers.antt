use Rattle.std.proofs.Common.{◌≡◌, ◌-◌, ◌∙◌, length, get_or, true, false, sym, arith, rules}
use Rattle.glass.specs.Row.{is_right_half}
use Rattle.cells.specs.Slots.{blank_slot}
use Rattle.cells.specs.Shows.{records}
use Rattle.cells.proofs.SlotCells.{at_left}
use Rattle.cells.proofs.cell_row.CellRow.left_cell.Goals as goal

pub returns-then-ne-clause-nearest : goal.returns-then-ne-clause-nearest
returns-then-ne-clause-nearest g c =
    let s = c.args.self.now in
    let k = c.loop-column.column in
    let e : is_right_half (get_or c.deref.result.now (k - 1) blank_slot).ink ≡ false = search rules in
    sym (at_left s.slots.items (length s.slots.items) (records s) k false (omega arith) (omega arith) (rw c.deref.ensures.0 at e)) ∙ c.loop-column.invariant

pub loop-column-preserved : goal.loop-column-preserved
loop-column-preserved g c =
    let s = c.args.self.now in
    let k = c.loop-column.column in
    let e : is_right_half (get_or c.deref.result.now (k - 1) blank_slot).ink ≡ true = search rules in
    sym (at_left s.slots.items (length s.slots.items) (records s) k true (omega arith) (omega arith) (rw c.deref.ensures.0 at e)) ∙ c.loop-column.invariant
