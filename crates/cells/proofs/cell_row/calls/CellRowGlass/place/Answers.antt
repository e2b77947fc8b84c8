use Rattle.std.proofs.Common.{length, refl, arith}
use Rattle.std.proofs.lemmas.Bool.{le-leb, lt-leb}
use Rattle.glass.specs.Row.{width_of}
use Rattle.glass.specs.Calls.{place}
use Rattle.glass.proofs.Refusals.{not_refused, refused_outside}
use Rattle.cells.specs.Shows.{shows, records, spare_of}
use Rattle.cells.proofs.SlotCells.{length_cells}
use Rattle.cells.proofs.cell_row.calls.CellRowGlass.place.Goals as goal

pub returns-then-column-len-clause-obeys : goal.returns-then-column-len-clause-obeys
returns-then-column-len-clause-obeys g c =
    let s = c.args.self.now in
    let w = width_of (shows s) in
    let n = length_cells s.slots.items (length s.slots.items) (records s) in
    let l = c.len.ensures.value in
    (refused_outside (place c.args.column) w (spare_of s) (le-leb w c.args.column (omega arith)), refl)

pub returns-clause-obeys : goal.returns-clause-obeys
returns-clause-obeys g c =
    let s = c.args.self.now in
    let w = width_of (shows s) in
    let n = length_cells s.slots.items (length s.slots.items) (records s) in
    let l = c.len.ensures.value in
    (not_refused (place c.args.column) w (spare_of s) (lt-leb w c.args.column (omega arith)) (omega arith) refl, refl, omega arith)
