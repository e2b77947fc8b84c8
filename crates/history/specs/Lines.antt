-- History bytes as lines: they are cut at 0A, one 0D before it goes, and what is left is a line if it is not empty.
use Rattle.std.specs.Prelude.{◌≡◌, ℕ, ◌-◌, ◌<◌, cond, List, [], ◌∷◌, ◌++◌, length, take, ◌==◌, ◌≢◌, slice_index}

abbrev pub newline : ℕ
newline = 0x0A

abbrev pub carriage_return : ℕ
carriage_return = 0x0D

-- one 0D at the end goes
abbrev pub without_return : List ℕ → List ℕ
without_return piece = cond (slice_index piece (length piece - 1) == carriage_return) (take (length piece - 1) piece) piece

-- a piece is a line if it is not empty
abbrev pub unless_empty : List ℕ → List (List ℕ)
unless_empty [] = []
unless_empty (b ∷ bs) = (b ∷ bs) ∷ []

-- the lines of bytes before which `begun` was read since the last 0A; the last piece needs no 0A, and keeps its 0D
abbrev pub lines_after : (begun bytes : List ℕ) → List (List ℕ)
lines_after begun [] = unless_empty begun
lines_after begun (b ∷ bs) =
    cond (b == newline) (unless_empty (without_return begun) ++ lines_after [] bs) (lines_after (begun ++ b ∷ []) bs)

unfoldable pub lines : List ℕ → List (List ℕ)
lines bytes = lines_after [] bytes

abbrev pub NoNewline : List ℕ → Type 0
NoNewline piece = (k : ℕ) → k < length piece → slice_index piece k ≢ newline

-- These two say which lines bytes have.
pub record LinesLaws : Type 0 where
  -- a 0A ends a line, and one 0D before it goes
  pub ended : (piece rest : List ℕ) → NoNewline piece → lines (piece ++ newline ∷ rest) ≡ unless_empty (without_return piece) ++ lines rest
  -- the last line needs no 0A, and then keeps its 0D
  pub unended : (piece : List ℕ) → NoNewline piece → lines piece ≡ unless_empty piece
