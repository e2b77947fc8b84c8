use Rattle.std.proofs.Common.{◌<◌, length, ap, ◌∙◌, arith}
use Rattle.glass.specs.Calls.{with_cells, marked}
use Rattle.cells.specs.Shows.{shows, records}
use Rattle.cells.proofs.SlotCells.{join_mark}
use Rattle.cells.proofs.cell_row.CellRow.join.Goals as goal

pub returns-in-Some-clause-row : goal.returns-in-Some-clause-row
returns-in-Some-clause-row g c =
    let s = c.args.self.now in
    let b = c.in-Some.ensures.below in
    let h : c.in-Some.column < length s.slots.items = omega arith in
    ap (λ cs. with_cells cs (shows s))
    (join_mark s.slots.items (length s.slots.items) (records s) c.add.new.self.table.items c.in-Some.column c.args.code h c.add.ensures.only
    ∙ ap (λ o. marked c.args.code o (shows s).cells) c.in-Some.ensures.nearest)
