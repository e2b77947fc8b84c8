-- What a typed text comes to.
use Rattle.std.specs.Prelude.{ℕ, cond, List, Ok, Err, Result, nat_lt}
use Rattle.text.specs.declared.refusal.Refusal.{Refusal}
use Rattle.text.specs.declared.refusal.Refusal.TheVariants.{DraftFull}
use Rattle.text.specs.Utf8.{characters, counted}
use Rattle.jump.specs.declared.goto.Jump.{Jump}
use Rattle.jump.specs.Goto.{goes_to}

abbrev pub most_characters : ℕ
most_characters = 256

abbrev within_draft : List ℕ → (lines : ℕ) → Result ℕ Refusal → Result Jump Refusal
within_draft bytes lines (Err refusal) = Err refusal
within_draft bytes lines (Ok n) = cond (nat_lt most_characters n) (Err DraftFull) (goes_to (characters bytes) lines)

-- Ill-formed bytes are refused, then a text that no draft holds; any other jumps.
abbrev pub typed_jump : List ℕ → (lines : ℕ) → Result Jump Refusal
typed_jump bytes lines = within_draft bytes lines (counted bytes)
