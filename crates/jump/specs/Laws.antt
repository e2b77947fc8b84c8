-- What the reading of numbers and the jump come to, said without the way they are worked out.
use Rattle.std.specs.Prelude.{◌≡◌, ℕ, ◌<◌, ◌≤◌, true, ◌⊎◌, List, ◌∷◌, length, ℤ, Ok, codes, slice_index}
use Rattle.jump.specs.declared.number.Sign.{Sign}
use Rattle.jump.specs.declared.number.Sign.TheVariants.{Plus, Minus}
use Rattle.jump.specs.declared.goto.Jump.TheVariants.{Quit, Stay, Line}
use Rattle.jump.specs.Numeral.{is_digit, value, limit, signed, number_read}
use Rattle.jump.specs.Goto.{goes_to}

-- Digits under a sign. A plus may be left out.
abbrev pub Spelled : Sign → (digits text : List ℕ) → Type 0
Spelled Plus digits text = (text ≡ digits) ⊎ (text ≡ 0x2B ∷ digits)
Spelled Minus digits text = text ≡ 0x2D ∷ digits

-- A text is a numeral, and stands for an integer.
pub record Numeral (text : List ℕ) (integer : ℤ) : Type 0 where
  pub sign : Sign
  pub digits : List ℕ
  pub spelled : Spelled sign digits text
  pub some_digit : 1 ≤ length digits
  pub only_digits : (i : ℕ) → i < length digits → is_digit (slice_index digits i) ≡ true
  pub within_limit : value digits ≤ limit sign
  pub stands_for : integer ≡ signed sign (value digits)

-- A number is read where the text is a numeral, and nowhere else.
abbrev pub ReadsJustNumerals : Type 0
ReadsJustNumerals =
    (text : List ℕ) (integer : ℤ)
    → (Numeral text integer → number_read text ≡ Ok integer) × (number_read text ≡ Ok integer → Numeral text integer)

-- A jump never leaves the listing.
abbrev pub StaysInTheListing : Type 0
StaysInTheListing = (text : List ℕ) (lines line : ℕ) → goes_to text lines ≡ Ok (Line line) → line < lines

-- Worked by hand, for a listing of ten lines.
pub record TenLines : Type 0 where
  pub first_from_the_end : goes_to (codes "-10") 10 ≡ Ok (Line 0)
  pub last_but_one : goes_to (codes "-1") 10 ≡ Ok (Line 8)
  pub quarter_from_the_end : goes_to (codes "-25%") 10 ≡ Ok (Line 6)
  pub past_the_end : goes_to (codes "11") 10 ≡ Ok (Line 9)
  pub quitting : goes_to (codes "q") 10 ≡ Ok Quit
  pub staying : goes_to (codes "") 10 ≡ Ok Stay
