-- A line as a seller edits it: its text, and the place of the cursor in it. Nothing here knows of scrolling.
use Rattle.std.specs.Prelude.{ℕ, zero, suc, ◌+◌, ◌-◌, min, max, Bool, cond, ◌&&◌, List, [], ◌++◌, length, take, drop, nat_lt, slice_index, slice_set}
use Rattle.text.specs.Scalars.{white}
use Rattle.text.specs.Walks.{on_past}
use Rattle.font.specs.declared.Columns.{Columns}
use Rattle.font.specs.Labels.{is_mark}
use Rattle.draft.specs.Words.{word_start, word_end}

-- the place is the number of characters before the cursor
pub record Line : Type 0 where
  pub text : List ℕ
  pub place : ℕ

abbrev pub line : List ℕ → ℕ → Line
line text place = record { text = text; place = place }

-- the characters that a line holds at most
abbrev pub capacity : ℕ
capacity = 256

abbrev pub empty_line : Line
empty_line = line [] 0

-- characters come in at the place, which moves past them
abbrev pub with_inserted : List ℕ → Line → Line
with_inserted cs l = line (take l.place l.text ++ (cs ++ drop l.place l.text)) (l.place + length cs)

-- the characters from one place on, up to another, go
abbrev pub without : (from to : ℕ) → Line → Line
without from to l = line (take from l.text ++ drop to l.text) from

-- the characters between the place and another go
abbrev pub removed_to : ℕ → Line → Line
removed_to p l = without (min l.place p) (max l.place p) l

abbrev pub moved_to : ℕ → Line → Line
moved_to p l = line l.text p

-- How far an edit reaches from the place: what lies between is removed, or passed.
abbrev pub prev_char : Line → ℕ
prev_char l = l.place - 1

abbrev pub next_char : Line → ℕ
next_char l = min (l.place + 1) (length l.text)

abbrev pub prev_word : Line → ℕ
prev_word l = word_start white l.text l.place

abbrev pub next_word : Line → ℕ
next_word l = word_end white l.text l.place

abbrev pub line_start : Line → ℕ
line_start l = 0

abbrev pub line_end : Line → ℕ
line_end l = length l.text

-- Right: one place on, then past the characters of 0 columns (marks)
abbrev pub right_of : (ℕ → Columns) → Line → ℕ
right_of columns l = cond (nat_lt l.place (length l.text)) (on_past (λ c. is_mark (columns c)) l.text (l.place + 1)) l.place

-- one place back, and again while the character reached is a mark and the place is above 0
abbrev pub left_from : (ℕ → Columns) → List ℕ → (place : ℕ) → ℕ
left_from columns text zero = zero
left_from columns text (suc place) = cond (is_mark (columns (slice_index text place))) (left_from columns text place) place

-- Left
abbrev pub left_of : (ℕ → Columns) → Line → ℕ
left_of columns l = left_from columns l.text l.place

-- there are two characters to swap
abbrev pub can_swap : Line → Bool
can_swap l = nat_lt 0 l.place && nat_lt 1 (length l.text)

-- the two characters before the place p have changed places
abbrev pub swapped_before : (p : ℕ) → List ℕ → List ℕ
swapped_before p t = slice_set (slice_set t (p - 2) (slice_index t (p - 1))) (p - 1) (slice_index t (p - 2))

-- the place goes on by one, unless it is at the end, and the two characters before it change places
abbrev pub with_swapped : Line → Line
with_swapped l = cond (can_swap l) (line (swapped_before (next_char l) l.text) (next_char l)) l
