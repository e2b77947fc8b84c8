-- What a glass shows: one row of cells, the pen, and the column of the cursor. It is as wide as it has cells.
use Rattle.std.specs.Prelude.{ℕ, ◌≤◌, Bool, true, false, List, [], length, replicate}
use Rattle.glass.specs.declared.Colours.{Colours}
use Rattle.glass.specs.declared.Colours.TheVariants.{Plain, Prompt}
use Rattle.glass.specs.declared.Pen.{Pen}
use Rattle.glass.specs.declared.Ink.{Ink}
use Rattle.glass.specs.declared.Ink.TheVariants.{Blank, Shown, RightHalf}

-- the words that the rules have for the cases of colours and ink
abbrev pub plain_colours : Colours
plain_colours = Plain

abbrev pub prompt_colours : Colours
prompt_colours = Prompt

abbrev pub blank : Ink
blank = Blank

abbrev pub shown : ℕ → Ink
shown c = Shown c

abbrev pub right_half : Ink
right_half = RightHalf

pub record Cell : Type 0 where
  pub ink : Ink
  pub pen : Pen
  pub marks : List ℕ

pub record Row : Type 0 where
  pub cells : List Cell
  pub pen : Pen
  pub column : ℕ

abbrev pub width_of : Row → ℕ
width_of r = length r.cells

abbrev pub pen_of : Colours → Bool → Pen
pen_of k r = record { colours = k; reversed = r }

abbrev pub plain_pen : Pen
plain_pen = pen_of plain_colours false

abbrev pub cell : Ink → Pen → Cell
cell i p = record { ink = i; pen = p; marks = [] }

abbrev pub blank_cell : Cell
blank_cell = cell blank plain_pen

abbrev pub blank_row : ℕ → Row
blank_row w = record { cells = replicate w blank_cell; pen = plain_pen; column = 0 }

abbrev pub is_right_half : Ink → Bool
is_right_half Blank = false
is_right_half (Shown c) = false
is_right_half RightHalf = true

-- the widest row
abbrev pub widest : ℕ
widest = 512

-- a row that a glass can show: not too wide, and the cursor on a column or right after the last
pub record Showable (r : Row) : Type 0 where
  pub some : 1 ≤ width_of r
  pub not_too_wide : width_of r ≤ widest
  pub cursor_inside : r.column ≤ width_of r
