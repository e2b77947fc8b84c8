-- What a text, a row of cells and bytes look like in a transcript.
use Rattle.std.specs.Prelude.{ℕ, ◌/◌, ◌%◌, Bool, true, false, cond, List, [], ◌∷◌, ◌++◌, map, ◌==◌, slice_index_or}
use Rattle.std.specs.List.{flat_map, range_with_len}
use Rattle.std.specs.Char.{encode_utf8}
use Rattle.std.proofs.Math.Utf8.{scalar}
use Rattle.font.specs.declared.Columns.{Columns}
use Rattle.font.specs.Labels.{label, has_label}
use Rattle.glass.specs.declared.Colours.{Colours}
use Rattle.glass.specs.declared.Colours.TheVariants.{Plain, Prompt}
use Rattle.glass.specs.declared.Ink.{Ink}
use Rattle.glass.specs.declared.Ink.TheVariants.{Blank, Shown, RightHalf}
use Rattle.glass.specs.declared.Pen.{Pen}
use Rattle.glass.specs.Row.{Row, Cell, blank_cell, width_of}
use Rattle.text.specs.Hex.{hex_digit}
use Rattle.transcript.specs.declared.showing.Readable.{Readable}

-- a space, and a byte in two digits
abbrev pub byte_text : ℕ → List ℕ
byte_text b = 0x20 ∷ hex_digit (b / 16) ∷ hex_digit (b % 16) ∷ []

-- a character, and `?` for a code that is none
abbrev pub char_text : ℕ → List ℕ
char_text c = encode_utf8 (cond (scalar c) c 0x3F)

-- a character without a width by its label
abbrev pub readable : (ℕ → Columns) → ℕ → List ℕ
readable columns c = cond (has_label (columns c)) (flat_map char_text (label c)) (char_text c)

abbrev pub text_of : {F : Type 0} → Readable F → List ℕ
text_of t = t.text.now

abbrev pub ink_text : Ink → List ℕ
ink_text Blank = 0x20 ∷ []
ink_text (Shown c) = char_text c
ink_text RightHalf = []

-- a character with its marks
abbrev pub cell_text : Cell → List ℕ
cell_text k = ink_text k.ink ++ flat_map char_text k.marks

abbrev pub row_text : Row → List ℕ
row_text r = flat_map cell_text r.cells

-- `.` plain, `p` the prompt's colours, and `:` or `P` the same reversed
abbrev pub sign_in : Colours → Bool → ℕ
sign_in Plain false = 0x2E
sign_in Plain true = 0x3A
sign_in Prompt false = 0x70
sign_in Prompt true = 0x50

abbrev pub sign : Pen → ℕ
sign p = sign_in p.colours p.reversed

-- the sign of the pen in a column, and `_` where the cursor is
abbrev pub sign_at : Row → ℕ → ℕ
sign_at r k = cond (k == r.column) 0x5F (sign (slice_index_or r.cells k blank_cell).pen)

abbrev pub pens_text : Row → List ℕ
pens_text r = map (sign_at r) (range_with_len 0 (width_of r))
