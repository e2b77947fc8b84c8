-- When a call is refused, and with what: the first reason that is there.
use Rattle.std.specs.Prelude.{ℕ, ◌+◌, Bool, true, cond, not, ◌||◌, List, [], ◌∷◌, ◌++◌, length, Some, None, Option, nat_lt}
use Rattle.std.proofs.Math.Utf8.{scalar}
use Rattle.text.specs.declared.refusal.Refusal.{Refusal}
use Rattle.text.specs.declared.refusal.Refusal.TheVariants.{OutsideGlass, LowSpare, NotScalar, IllFormed, DraftFull}
use Rattle.text.specs.Utf8.{characters, well_formed, front_length}
use Rattle.glass.specs.Row.{widest}
use Rattle.draft.specs.Line.{capacity}
use Rattle.draft.specs.Draft.{Draft}
use Rattle.prompt.specs.declared.keys.KeyCode.{KeyCode}
use Rattle.prompt.specs.declared.keys.KeyCode.TheVariants as code
use Rattle.prompt.specs.declared.keys.Edit.TheVariants.{Insert}
use Rattle.prompt.specs.declared.keys.Operation.{Operation}
use Rattle.prompt.specs.declared.keys.Operation.TheVariants as operation
use Rattle.prompt.specs.Keys.{operation as operation_of}
use Rattle.prompt.specs.Edits.{edit_refused}
use Rattle.prompt.specs.Requests.{Request, draw, key, paste, resize}

-- the width that a call draws at
abbrev pub width_after : Request → (width : ℕ) → ℕ
width_after draw w = w
width_after (key event) w = w
width_after (paste bytes) w = w
width_after (resize new) w = new

-- a reason to refuse a call, and whether it is there
pub record Reason : Type 0 where
  pub is_there : Bool
  pub refuses_with : Refusal

abbrev pub when : Bool → Refusal → Reason
when b e = record { is_there = b; refuses_with = e }

abbrev pub first_of : List Reason → Option Refusal
first_of [] = None
first_of (r ∷ rs) = cond r.is_there (Some r.refuses_with) (first_of rs)

-- the columns beside the label: two spaces before it, two after, and a margin of five for the text
abbrev pub beside_label : ℕ
beside_label = 9

-- what a glass must have to spare, so that no drawing is refused half way
abbrev pub least_spare : ℕ
least_spare = 1300

abbrev pub wrong_width : (label-length width : ℕ) → Reason
wrong_width n w = when (nat_lt w (n + beside_label) || nat_lt widest w) OutsideGlass

abbrev pub too_little_spare : ℕ → Reason
too_little_spare spare = when (nat_lt spare least_spare) LowSpare

-- a character key carries a character; the other keys carry none
abbrev pub carries_scalar : KeyCode → Bool
carries_scalar (code.Char c) = scalar c
carries_scalar _ = true

abbrev pub no_scalar : KeyCode → Reason
no_scalar k = when (not (carries_scalar k)) NotScalar

-- the place is the length of the longest front that is well formed
abbrev pub ill_formed : List ℕ → Reason
ill_formed bytes = when (not (well_formed bytes)) (IllFormed (front_length bytes))

abbrev pub too_long : (draft-length added : ℕ) → Reason
too_long n m = when (nat_lt capacity (n + m)) DraftFull

-- how many characters an operation adds
abbrev pub typed : Operation → ℕ
typed (operation.Edit (Insert c)) = 1
typed _ = 0

-- what every call asks of its glass
abbrev pub glass_reasons : (label-length width spare : ℕ) → List Reason
glass_reasons label width spare = wrong_width label width ∷ too_little_spare spare ∷ []

-- what a call asks besides
abbrev pub own_reasons : Request → (draft-length : ℕ) → List Reason
own_reasons draw n = []
own_reasons (key event) n = no_scalar event.key ∷ too_long n (typed (operation_of event)) ∷ []
own_reasons (paste bytes) n = ill_formed bytes ∷ too_long n (length (characters bytes)) ∷ []
own_reasons (resize w) n = []

abbrev pub reasons : Request → (label-length width spare draft-length : ℕ) → List Reason
reasons x label width spare n = glass_reasons label (width_after x width) spare ++ own_reasons x n

abbrev pub refusal : Request → (label-length width spare draft-length : ℕ) → Option Refusal
refusal x label width spare n = first_of (reasons x label width spare n)

-- why an operation may not be carried out on a draft, if so
abbrev pub operation_refused : Operation → Draft → Option Refusal
operation_refused (operation.Edit e) d = edit_refused e d
operation_refused _ d = None
