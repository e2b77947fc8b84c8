use Rattle.std.proofs.Common.{length, sym, ◌∙◌, arith}
use Rattle.cells.specs.Shows.{records}
use Rattle.cells.proofs.SlotCells.{length_cells}
use Rattle.cells.proofs.cell_row.calls.CellRowGlass.width.Goals as goal

pub returns : goal.returns
returns g c =
    let s = c.args.self.now in
    let n = length_cells s.slots.items (length s.slots.items) (records s) in
    record { value = c.len.ensures.value ∙ sym n; showable = record { some = omega arith; not_too_wide = omega arith; cursor_inside = omega arith } }
