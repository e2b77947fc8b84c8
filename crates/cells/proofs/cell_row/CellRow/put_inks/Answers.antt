use Rattle.std.proofs.Common.{length, sym, ◌∙◌, arith}
use Rattle.std.proofs.lemmas.List.{at_drop_all}
use Rattle.cells.specs.Shows.{shows, records, with_inks, inked}
use Rattle.cells.proofs.SlotCells.{length_cells}
use Rattle.cells.proofs.Fills.{fits, lost}
use Rattle.cells.proofs.cell_row.CellRow.put_inks.Goals as goal

pub returns-then-inks-len-clause-row : goal.returns-then-inks-len-clause-row
returns-then-inks-len-clause-row g c =
    let s = c.args.self.now in
    let n = length_cells s.slots.items (length s.slots.items) (records s) in
    lost (length c.args.inks.now) (inked c.args.inks.now (shows s)) (shows s) (omega arith)

pub returns-clause-row : goal.returns-clause-row
returns-clause-row g c =
    let s = c.args.self.now in
    let t = c.loop-ink.self in
    let i = c.loop-ink.invariant in
    let n = length_cells s.slots.items (length s.slots.items) (records s) in
    fits (length c.args.inks.now) (inked c.args.inks.now (shows s)) (shows s) (shows t) (omega arith)
    (sym (at_drop_all (λ is. with_inks is s.pen t.column (shows t).cells) c.args.inks.now c.loop-ink.ink-index (omega arith)) ∙ i.0)
    i.3
    (omega arith)
