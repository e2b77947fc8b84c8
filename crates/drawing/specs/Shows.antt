-- What it is for a row to show a character whole.
use Rattle.std.specs.Prelude.{◌≡◌, ℕ, ◌+◌, ◌<◌, true, List, length, Some, slice_index, slice_index_or}
use Rattle.font.specs.declared.Columns.{Columns}
use Rattle.font.specs.declared.Columns.TheVariants.{NoWidth, Zero, One, Two}
use Rattle.font.specs.Labels.{label}
use Rattle.glass.specs.Row.{Cell, shown, right_half, blank_cell}
use Rattle.glass.specs.declared.Ink.{Ink}
use Rattle.glass.specs.Calls.{cell_left_of}

abbrev ink_at : List Cell → ℕ → Ink
ink_at cells k = (slice_index_or cells k blank_cell).ink

-- every character of its spelling, reversed
pub record ShowsLabel (cells : List Cell) (column : ℕ) (spelling : List ℕ) : Type 0 where
  pub each_character : (k : ℕ) → k < length spelling → ink_at cells (column + k) ≡ shown (slice_index spelling k)
  pub each_reversed : (k : ℕ) → k < length spelling → (slice_index_or cells (column + k) blank_cell).pen.reversed ≡ true

-- it is one of the marks of the nearest cell to the left that is no right half
pub record ShowsMark (cells : List Cell) (column : ℕ) (mark : ℕ) : Type 0 where
  pub cell : ℕ
  pub nearest : cell_left_of column cells ≡ Some cell
  pub which : ℕ
  pub among : which < length (slice_index_or cells cell blank_cell).marks
  pub is_there : slice_index_or (slice_index_or cells cell blank_cell).marks which 0 ≡ mark

-- by what its font gives it
abbrev pub ShowsBy : Columns → List Cell → (column : ℕ) → (c : ℕ) → Type 0
ShowsBy NoWidth cells column c = ShowsLabel cells column (label c)
ShowsBy Zero cells column c = ShowsMark cells column c
ShowsBy One cells column c = ink_at cells column ≡ shown c
ShowsBy Two cells column c = (ink_at cells column ≡ shown c) × (ink_at cells (column + 1) ≡ right_half)

abbrev pub ShowsWhole : (ℕ → Columns) → List Cell → (column : ℕ) → (c : ℕ) → Type 0
ShowsWhole columns cells column c = ShowsBy (columns c) cells column c
