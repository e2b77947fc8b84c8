use Rattle.std.proofs.Common.{◌≡◌, ◌+◌, ◌≤◌, length, drop}
use Rattle.cells.specs.Shows.{shows, mark_records, with_inks}
use Rattle.cells.proofs.cell_row.CellRow.put_inks.Given as goal

abbrev pub invariant-loop-ink : goal.invariant-loop-ink
invariant-loop-ink g l =
    (with_inks (drop l.ink-index l.inks) l.pen l.self.column (shows l.self).cells ≡ with_inks l.inks l.pen l.initial.self.column (shows l.initial.self).cells)
    × (l.self.column ≡ l.initial.self.column + l.ink-index)
    × (length l.self.slots.items ≡ length l.initial.self.slots.items)
    × (l.self.pen ≡ l.initial.self.pen)
    × (mark_records l.self ≤ mark_records l.initial.self)
