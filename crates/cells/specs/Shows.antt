-- What a cell row shows, and what it has to spare.
use Rattle.std.specs.Prelude.{◌≡◌, ℕ, ◌+◌, ◌-◌, true, false, cond, List, [], ◌∷◌, length, Some, None, sum_by, Option, Result, MatchResult, nat_lt, slice_index_or, slice_set}
use Rattle.arrayvec.specs.ArrayVec.{array_vec_len}
use Rattle.text.specs.declared.refusal.Refusal.{Refusal}
use Rattle.text.specs.declared.refusal.Refusal.TheVariants.{OutsideGlass}
use Rattle.glass.specs.declared.Ink.{Ink}
use Rattle.glass.specs.declared.Pen.{Pen}
use Rattle.glass.specs.Row.{Row, Cell, cell, blank_cell, blank_row, width_of}
use Rattle.glass.specs.Calls.{no_width}
use Rattle.cells.specs.declared.cell_row.CellRow.{CellRow}
use Rattle.cells.specs.declared.table.Slot.{Slot}
use Rattle.cells.specs.declared.table.Mark.{Mark}
use Rattle.cells.specs.Slots.{row_of, most_marks}

-- the mark records in use
abbrev pub records : {F : Type 0} → CellRow F → List Mark
records s = s.marks.table.items

abbrev pub mark_records : {F : Type 0} → CellRow F → ℕ
mark_records s = length (records s)

abbrev pub shows : {F : Type 0} → CellRow F → Row
shows s = row_of s.slots.items (array_vec_len s.slots) (records s) s.pen s.column

abbrev pub spare_of : {F : Type 0} → CellRow F → ℕ
spare_of s = most_marks - mark_records s

-- how many marks a row has
abbrev pub marks_on : Row → ℕ
marks_on r = sum_by (λ k. length k.marks) r.cells

-- a blank row of a width that a glass may have, with all to spare
abbrev pub Made : {F : Type 0} → (width : ℕ) → Result (CellRow F) Refusal → Type 0
Made w r =
    MatchResult r
    (λ s. (no_width w ≡ false) × (shows s ≡ blank_row w) × (spare_of s ≡ most_marks))
    (λ e. (no_width w ≡ true) × (e ≡ OutsideGlass))

abbrev pub slot_of : Cell → Slot
slot_of k = record { ink = k.ink; pen = k.pen }

-- the cell in a column without its marks; none past the width
abbrev pub slot_shown : Row → (column : ℕ) → Option Slot
slot_shown r k = cond (nat_lt k (width_of r)) (Some (slot_of (slice_index_or r.cells k blank_cell))) None

-- cells with inks one after another from a column on
abbrev pub with_inks : List Ink → Pen → (column : ℕ) → List Cell → List Cell
with_inks [] p k cells = cells
with_inks (i ∷ is) p k cells = with_inks is p (k + 1) (slice_set cells k (cell i p))

abbrev pub inked : List Ink → Row → List Cell
inked is r = with_inks is r.pen r.column r.cells
