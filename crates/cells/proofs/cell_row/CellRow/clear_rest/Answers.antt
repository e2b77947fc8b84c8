use Rattle.std.proofs.Common.{◌-◌, ◌++◌, length, take, replicate, sym, ap, ◌∙◌, arith}
use borrow.Rule.Slice.PartMut.{post_of}
use Rattle.arrayvec.proofs.ArrayVecLemmas.{items-with_items}
use Rattle.glass.specs.Row.{blank_cell}
use Rattle.cells.specs.Shows.{shows, records}
use Rattle.cells.proofs.SlotCells.{row_is, length_cells, filled, wiped_length, cleared_cells}
use Rattle.cells.proofs.cell_row.CellRow.clear_rest.Goals as goal

pub returns-clause-row : goal.returns-clause-row
returns-clause-row g c =
    let s = c.args.self.now in
    let at = s.column in
    let slots = s.slots.items in
    let now = c.deref_mut.result.now in
    let f = filled slots at (omega arith) now c.fill.new.self c.deref_mut.ensures.value (c.fill.ensures.after (λ y h. h)) in
    row_is c.truncate.new.self.table.items s.pen at
    (items-with_items s.slots (take at now ++ (c.fill.new.self ++ post_of at (length now - at) now)) (ap length f ∙ wiped_length slots at (omega arith)) ∙ f)
    (wiped_length slots at (omega arith))
    (cleared_cells slots at (omega arith) (records s) c.truncate.new.self.table.items c.truncate.ensures.cut
    ∙ ap (λ n. take at (shows s).cells ++ replicate (n - at) blank_cell) (sym (length_cells slots (length slots) (records s))))
