-- What a caller asks of a prompt, without the prompt and the glass.
use Rattle.std.specs.Prelude.{ℕ, Bool, true, false, List, Some, None, Ok, Err, Option, Result}
use Rattle.text.specs.declared.refusal.Refusal.{Refusal}
use Rattle.draft.specs.declared.action.DisplayAction.{DisplayAction}
use Rattle.prompt.specs.declared.keys.KeyEvent.{KeyEvent}
use Rattle.prompt.specs.declared.session.Call.{Call}
use Rattle.prompt.specs.declared.session.Call.TheVariants.{Draw, Key, Paste, Resize}

pub data Request : Type 0 where
  draw : Request
  key : (event : KeyEvent) → Request
  paste : (bytes : List ℕ) → Request
  resize : (width : ℕ) → Request

abbrev pub request : Call → Request
request Draw = draw
request (Key event) = key event
request (Paste b) = paste b.now
request (Resize w) = resize w

-- what a call came to: what it answers, if anything, or why it was refused
abbrev pub Reply : Type 0
Reply = Result (Option DisplayAction) Refusal

abbrev pub was_refused : Reply → Bool
was_refused (Ok a) = false
was_refused (Err e) = true

-- the reply that stands for what one call returned
abbrev pub reply_of : Result (Unit {0}) Refusal → Reply
reply_of (Ok x) = Ok None
reply_of (Err e) = Err e

abbrev pub answered_by : Result DisplayAction Refusal → Reply
answered_by (Ok a) = Ok (Some a)
answered_by (Err e) = Err e
