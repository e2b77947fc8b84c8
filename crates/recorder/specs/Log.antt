-- A log: the version 01, then records. A record is the number of bytes that follow it, in two bytes with the high one
-- first, then a kind and what belongs to it. A log says which calls were made, and so which row it makes.
use Rattle.std.specs.Prelude.{◌≡◌, ℕ, zero, suc, ◌+◌, ◌*◌, ◌/◌, ◌%◌, min, Bool, true, cond, not, ◌&&◌, ◌||◌, List, [], ◌∷◌, ◌++◌, length, take, drop, Some, None, Ok, Err, Option, Result, ◌==◌, nat_lt, slice_index}
use Rattle.std.proofs.Math.Utf8.{encodes}
use Rattle.std.specs.Str.{chars}
use Rattle.std.specs.List.{flat_map}
use Rattle.text.specs.declared.refusal.Refusal.{Refusal}
use Rattle.text.specs.declared.refusal.Refusal.TheVariants.{OutsideGlass, BufferTooShort}
use Rattle.font.specs.declared.Columns.{Columns}
use Rattle.glass.specs.declared.PenChange.{PenChange}
use Rattle.glass.specs.declared.PenChange.TheVariants.{Plain, Prompt, ReverseOn, ReverseOff}
use Rattle.glass.specs.Row.{Row, blank_row}
use Rattle.glass.specs.Calls.{GlassCall, place, pen, text, clear, reshape, apply_all, no_width, outside, no_scalar}

-- WRITING

abbrev pub pen_code : PenChange → ℕ
pen_code Plain = 0
pen_code Prompt = 1
pen_code ReverseOn = 2
pen_code ReverseOff = 3

-- the kind and what belongs to it, for a call on the row at a line of the screen
abbrev pub payload : (line : ℕ) → GlassCall → List ℕ
payload line (place k) = 1 ∷ (line / 256) ∷ (line % 256) ∷ (k / 256) ∷ (k % 256) ∷ []
payload line (pen p) = 2 ∷ pen_code p ∷ []
payload line (text cs) = 3 ∷ encodes cs
payload line clear = 4 ∷ []
payload line (reshape w) = 5 ∷ (w / 256) ∷ (w % 256) ∷ []

abbrev pub measured : List ℕ → List ℕ
measured p = (length p / 256) ∷ (length p % 256) ∷ p

abbrev pub record_of : (line : ℕ) → GlassCall → List ℕ
record_of line k = measured (payload line k)

-- bytes with a part written over them from a place on
abbrev pub written_at : (at : ℕ) → (part bytes : List ℕ) → List ℕ
written_at at part bytes = take at bytes ++ (part ++ drop (at + length part) bytes)

-- what calls are written as; none as no bytes
abbrev pub log_of : (line : ℕ) → List GlassCall → List ℕ
log_of line [] = []
log_of line (k ∷ ks) = 1 ∷ flat_map (record_of line) (k ∷ ks)

-- READING

-- the number in the two bytes at i
abbrev pub number_at : ℕ → List ℕ → ℕ
number_at i bs = slice_index bs i * 256 + slice_index bs (i + 1)

abbrev pub pen_in : ℕ → List GlassCall
pen_in b =
    cond (b == 0) (pen Plain ∷ [])
    (cond (b == 1) (pen Prompt ∷ [])
    (cond (b == 2) (pen ReverseOn ∷ [])
    (cond (b == 3) (pen ReverseOff ∷ []) [])))

-- the call of a record, given without its length; a record of no known kind is no call
abbrev pub call_in : List ℕ → List GlassCall
call_in r =
    cond (slice_index r 0 == 1) (place (number_at 3 r) ∷ [])
    (cond (slice_index r 0 == 2) (pen_in (slice_index r 1))
    (cond (slice_index r 0 == 3) (text (chars (drop 1 r)) ∷ [])
    (cond (slice_index r 0 == 4) (clear ∷ [])
    (cond (slice_index r 0 == 5) (reshape (number_at 1 r) ∷ []) []))))

-- the records in bytes, each without its length; n more bytes belong to the one that was begun
abbrev pub records_after : (n : ℕ) → (begun : List ℕ) → List ℕ → List (List ℕ)
records_after zero begun [] = begun ∷ []
records_after zero begun (h ∷ []) = begun ∷ []
records_after zero begun (h ∷ l ∷ bs) = begun ∷ records_after (h * 256 + l) [] bs
records_after (suc n) begun [] = []
records_after (suc n) begun (b ∷ bs) = records_after n (begun ++ (b ∷ [])) bs

abbrev pub records : List ℕ → List (List ℕ)
records [] = []
records (h ∷ []) = []
records (h ∷ l ∷ bs) = records_after (h * 256 + l) [] bs

-- the calls in a log; bytes of another version have none
abbrev pub calls_in : List ℕ → List GlassCall
calls_in [] = []
calls_in (v ∷ bs) = cond (v == 1) (flat_map call_in (records bs)) []

-- the row that a log makes
abbrev pub log_row : (ℕ → Columns) → List ℕ → Row
log_row columns bs = apply_all columns (calls_in bs) (blank_row 1)

-- THE WIDTH, whatever the font is

abbrev pub width_then : GlassCall → ℕ → ℕ
width_then (place k) w = w
width_then (pen p) w = w
width_then (text cs) w = w
width_then clear w = w
width_then (reshape n) w = n

abbrev pub widths : List GlassCall → ℕ → ℕ
widths [] w = w
widths (k ∷ ks) w = widths ks (width_then k w)

-- the width of the row that a log makes
abbrev pub log_width : List ℕ → ℕ
log_width bs = widths (calls_in bs) 1

-- a call that a row of a width takes, whatever there is to spare
abbrev pub taken : GlassCall → (width : ℕ) → Bool
taken k w = not (outside k w || no_scalar k)

abbrev pub all_taken : List GlassCall → (width : ℕ) → Bool
all_taken [] w = true
all_taken (k ∷ ks) w = taken k w && all_taken ks (width_then k w)

-- bytes that are to the last one what the calls that they read as are written as, and the row takes these calls
abbrev pub Written : (line : ℕ) → List ℕ → Type 0
Written line bs = (log_of line (calls_in bs) ≡ bs) × (all_taken (calls_in bs) 1 ≡ true)

-- reading undoes writing
abbrev pub CallsAreReadBack : Type 0
CallsAreReadBack = (line width : ℕ) (ks : List GlassCall) → all_taken ks width ≡ true → calls_in (log_of line ks) ≡ ks

-- bytes are the record of a call that a row takes, and the call takes the row from one width to another
pub record RecordOf (line before after : ℕ) (part : List ℕ) : Type 0 where
  pub call : GlassCall
  pub spelled : part ≡ record_of line call
  pub whole : taken call before ≡ true
  pub wide : width_then call before ≡ after

-- MAKING

-- the most bytes that a recorder uses
abbrev pub most_bytes : ℕ
most_bytes = 65536

-- why no recorder of a width can be made in a buffer of so many bytes, if so: it opens with its version and its width
abbrev pub making_refused : (width room : ℕ) → Option Refusal
making_refused width room = cond (no_width width) (Some OutsideGlass) (cond (nat_lt room 6) (Some BufferTooShort) None)

abbrev pub answer : Option Refusal → Result (Unit {0}) Refusal
answer None = Ok tt
answer (Some e) = Err e

-- the calls that a recorder begins with: its width; one that is made in spite of a refusal has none, and so no bytes
abbrev pub first_calls : Option Refusal → (width : ℕ) → List GlassCall
first_calls None width = reshape width ∷ []
first_calls (Some e) width = []

abbrev pub opening : Option Refusal → (line width : ℕ) → List ℕ
opening o line width = log_of line (first_calls o width)

abbrev pub room_for : Option Refusal → ℕ → ℕ
room_for None n = min n most_bytes
room_for (Some e) n = 0

abbrev pub first_width : Option Refusal → ℕ → ℕ
first_width None w = w
first_width (Some e) w = 1
