-- Where a typed text jumps to in a listing.
use Rattle.std.specs.Prelude.{◌≡◌, MatchBool, ℕ, suc, ◌-◌, ◌*◌, ◌/◌, min, Bool, cond, ◌&&◌, List, [], ◌∷◌, length, take, ℤ, pos, negsuc, Ok, Err, Result, ◌==◌, nat_lt, slice_index}
use Rattle.text.specs.declared.refusal.Refusal.{Refusal}
use Rattle.text.specs.declared.refusal.Refusal.TheVariants.{ListingTooLong, NoLines}
use Rattle.jump.specs.declared.goto.Jump.{Jump}
use Rattle.jump.specs.declared.goto.Jump.TheVariants.{Quit, Stay, Line}
use Rattle.jump.specs.Numeral.{number_read}

-- A listing has at most 2^32 lines.
abbrev pub most_lines : ℕ
most_lines = 4294967296

-- The line that a number names. A number from 1 on counts from the top and is held to the last line; 0 is the first line too. A negative
-- one counts from the end, -1 being the last line but one, and is held to the first line.
abbrev pub line_at : ℤ → (lines : ℕ) → ℕ
line_at (pos n) lines = min n lines - 1
line_at (negsuc n) lines = lines - suc n - 1

-- A percentage held to -100..100; a negative one counts back from 100.
abbrev pub percent_held : ℤ → ℕ
percent_held (pos n) = min n 100
percent_held (negsuc n) = 100 - min (suc n) 100

-- So much of the way from the first line to the last, cut to a whole line.
abbrev pub line_at_percent : ℤ → (lines : ℕ) → ℕ
line_at_percent p lines = percent_held p * (lines - 1) / 100

-- A number leads to a line, where there are lines.
abbrev pub to_line : (ℤ → ℕ → ℕ) → (lines : ℕ) → Result ℤ Refusal → Result Jump Refusal
to_line at lines (Err fault) = Err fault
to_line at lines (Ok n) = cond (lines == 0) (Err NoLines) (Ok (Line (at n lines)))

-- The same by a relation of a number and its line.
abbrev pub LeadsBy : (ℤ → ℕ → Type 0) → (lines : ℕ) → Result ℤ Refusal → Result Jump Refusal → Type 0
LeadsBy Names lines (Err fault) result = result ≡ Err fault
LeadsBy Names lines (Ok n) result = MatchBool (lines == 0) (result ≡ Err NoLines) ((line : ℕ) × Names n line × (result ≡ Ok (Line line)))

abbrev pub ends_in_percent : List ℕ → Bool
ends_in_percent text = slice_index text (length text - 1) == 0x25

abbrev pub without_last : List ℕ → List ℕ
without_last text = take (length text - 1) text

-- A final % makes a percentage of the number before it.
abbrev pub target_of : List ℕ → (lines : ℕ) → Result Jump Refusal
target_of text lines =
    cond (ends_in_percent text)
    (to_line line_at_percent lines (number_read (without_last text)))
    (to_line line_at lines (number_read text))

-- "q" quits, nothing typed stays, and all else names a line.
abbrev pub goto_text : List ℕ → (lines : ℕ) → Result Jump Refusal
goto_text [] lines = Ok Stay
goto_text (c ∷ cs) lines = cond (c == 0x71 && length cs == 0) (Ok Quit) (target_of (c ∷ cs) lines)

-- A longer listing is refused, whatever was typed.
abbrev pub goes_to : List ℕ → (lines : ℕ) → Result Jump Refusal
goes_to text lines = cond (nat_lt most_lines lines) (Err ListingTooLong) (goto_text text lines)
