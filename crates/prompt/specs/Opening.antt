-- When a prompt opens, and what it holds then.
use Rattle.std.specs.Prelude.{ℕ, Bool, not, ◌&&◌, List, [], ◌∷◌, length, Some, None, Ok, Err, Option, Result, nat_le, nat_lt}
use Rattle.text.specs.declared.refusal.Refusal.{Refusal}
use Rattle.text.specs.declared.refusal.Refusal.TheVariants.{BadLabel, HistoryTooLong}
use Rattle.history.specs.Limits.{longest_history}
use Rattle.history.specs.Session.{remembered_texts}
use Rattle.drawing.specs.Ascii.{printable}
use Rattle.drawing.specs.Drawing.{longest_label}
use Rattle.prompt.specs.Refused.{when, first_of}
use Rattle.prompt.specs.Session.{Session, newly_opened}

-- 1 to 32 characters of 20 to 7E
abbrev pub is_label : List ℕ → Bool
is_label label = nat_le 1 (length label) && nat_le (length label) longest_label && printable label

abbrev pub opening_refused : (label history : List ℕ) → Option Refusal
opening_refused label history = first_of (when (not (is_label label)) BadLabel ∷ when (nat_lt longest_history (length history)) HistoryTooLong ∷ [])

-- the refusal in an answer, if it is one
abbrev pub refusal_in : {A : Type 0} → Result A Refusal → Option Refusal
refusal_in (Ok x) = None
refusal_in (Err refusal) = Some refusal

-- the texts that the history remembers, and an empty draft, in hand
abbrev pub opened_with : (label history : List ℕ) → Session
opened_with label history = newly_opened label (remembered_texts history)
