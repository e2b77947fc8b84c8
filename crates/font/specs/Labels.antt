-- How a character without a width is spelled, and how many columns a character and a text take.
use Rattle.std.specs.Prelude.{ℕ, zero, suc, ◌+◌, ◌/◌, ◌%◌, ◌≤◌, Bool, true, false, cond, ◌||◌, List, [], ◌∷◌, ◌++◌, length, take, drop, ◌==◌, nat_lt}
pub use Rattle.text.specs.Hex.{hex_digit}
use Rattle.font.specs.declared.Columns.{Columns}
use Rattle.font.specs.declared.Columns.TheVariants.{NoWidth, Zero, One, Two}

-- The last `count` hexadecimal digits of n.
abbrev pub hex : (count n : ℕ) → List ℕ
hex zero n = []
hex (suc count) n = hex count (n / 16) ++ (hex_digit (n % 16) ∷ [])

-- Four digits, or five or six where the code has more. (A code past 10FFFF never occurs; it would show its last six.)
abbrev pub hex_count : ℕ → ℕ
hex_count c = cond (nat_lt c 0x10000) 4 (cond (nat_lt c 0x100000) 5 6)

-- The characters below 20, and 7F, have the short label.
abbrev pub has_short_label : ℕ → Bool
has_short_label c = nat_lt c 0x20 || c == 0x7F

-- The label of a character without a width: <07> if it is short, and else <U+0085>.
abbrev pub label : ℕ → List ℕ
label c =
    cond (has_short_label c)
    (0x3C ∷ (hex 2 c ++ (0x3E ∷ [])))
    (0x3C ∷ 0x55 ∷ 0x2B ∷ (hex (hex_count c) c ++ (0x3E ∷ [])))

-- The most characters that a label has.
abbrev pub longest_label : ℕ
longest_label = 10

-- The characters 20 to 7E, which every font shows in one column.
abbrev pub Printable : ℕ → Type 0
Printable c = (0x20 ≤ c) × (c ≤ 0x7E)

-- The columns of c, by what its font gives it: a label takes a column for each of its characters.
abbrev pub columns_by : Columns → ℕ → ℕ
columns_by NoWidth c = length (label c)
columns_by Zero c = 0
columns_by One c = 1
columns_by Two c = 2

abbrev pub char_columns : (ℕ → Columns) → ℕ → ℕ
char_columns columns c = columns_by (columns c) c

abbrev pub text_columns : (ℕ → Columns) → List ℕ → ℕ
text_columns columns [] = 0
text_columns columns (c ∷ cs) = char_columns columns c + text_columns columns cs

-- The part of a text from one place up to another.
abbrev pub between : (from to : ℕ) → List ℕ → List ℕ
between from to text = drop from (take to text)

-- A character without a width is shown by its label.
abbrev pub has_label : Columns → Bool
has_label NoWidth = true
has_label Zero = false
has_label One = false
has_label Two = false

-- A character of 0 columns is a mark on the one before it.
abbrev pub is_mark : Columns → Bool
is_mark NoWidth = false
is_mark Zero = true
is_mark One = false
is_mark Two = false

-- A character of 2 columns is wide.
abbrev pub is_wide : Columns → Bool
is_wide NoWidth = false
is_wide Zero = false
is_wide One = false
is_wide Two = true
