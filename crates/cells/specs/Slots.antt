-- What the slots and the table of marks of a cell row show.
use Rattle.std.specs.Prelude.{ℕ, Bool, List, map, filter, ◌==◌, slice_index_or}
use Rattle.std.specs.List.{range_with_len}
use Rattle.glass.specs.declared.Pen.{Pen}
use Rattle.glass.specs.Row.{Row, Cell, blank, plain_pen}
use Rattle.cells.specs.declared.table.Slot.{Slot}
use Rattle.cells.specs.declared.table.Mark.{Mark}

-- how many mark records there are
abbrev pub most_marks : ℕ
most_marks = 2048

abbrev pub column_of : Mark → ℕ
column_of m = m.column

abbrev pub code_of : Mark → ℕ
code_of m = m.code

abbrev pub stands_at : ℕ → Mark → Bool
stands_at k m = m.column == k

-- the marks of a column, as they came
abbrev pub marks_of : ℕ → List Mark → List ℕ
marks_of k ms = map code_of (filter (stands_at k) ms)

abbrev pub blank_slot : Slot
blank_slot = record { ink = blank; pen = plain_pen }

abbrev pub cell_at : List Slot → List Mark → ℕ → Cell
cell_at slots ms k = record { ink = (slice_index_or slots k blank_slot).ink; pen = (slice_index_or slots k blank_slot).pen; marks = marks_of k ms }

abbrev pub cells_of : List Slot → (width : ℕ) → List Mark → List Cell
cells_of slots w ms = map (cell_at slots ms) (range_with_len 0 w)

abbrev pub row_of : List Slot → (width : ℕ) → List Mark → Pen → (column : ℕ) → Row
row_of slots w ms p k = record { cells = cells_of slots w ms; pen = p; column = k }
