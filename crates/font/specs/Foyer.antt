-- The foyer font, by three lists of ranges, first and last code included. A code in none of them takes one column;
-- a number that is no scalar value is such a code too, so that every number has an answer.
use Rattle.std.specs.Prelude.{ℕ, Bool, false, cond, ◌||◌, List, [], ◌∷◌}
use Rattle.text.specs.Scalars.{within}
use Rattle.font.specs.declared.Columns.{Columns}
use Rattle.font.specs.declared.Columns.TheVariants.{NoWidth, Zero, One, Two}

abbrev pub no_width_ranges : List (ℕ × ℕ)
no_width_ranges = (0x00, 0x1F) ∷ (0x7F, 0x9F) ∷ []

abbrev pub zero_column_ranges : List (ℕ × ℕ)
zero_column_ranges =
    (0x0300, 0x036F) ∷ (0x0483, 0x0489) ∷ (0x200B, 0x200F) ∷ (0x20D0, 0x20F0) ∷ (0xFE00, 0xFE0F) ∷ (0xFEFF, 0xFEFF) ∷ []

abbrev pub two_column_ranges : List (ℕ × ℕ)
two_column_ranges =
    (0x1100, 0x115F) ∷ (0x2E80, 0x303E) ∷ (0x3041, 0x4DBF) ∷ (0x4E00, 0xA4CF) ∷ (0xAC00, 0xD7A3) ∷ (0xF900, 0xFAFF)
    ∷ (0xFE30, 0xFE6F) ∷ (0xFF01, 0xFF60) ∷ (0xFFE0, 0xFFE6) ∷ (0x1F300, 0x1F64F) ∷ (0x20000, 0x3FFFD) ∷ []

-- c lies in one of the ranges
abbrev pub within_any : List (ℕ × ℕ) → ℕ → Bool
within_any [] c = false
within_any (range ∷ ranges) c = within range.0 range.1 c || within_any ranges c

abbrev pub foyer_columns : ℕ → Columns
foyer_columns c =
    cond (within_any no_width_ranges c) NoWidth
    (cond (within_any zero_column_ranges c) Zero
    (cond (within_any two_column_ranges c) Two One))
