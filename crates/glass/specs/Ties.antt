-- What a glass is tied to, and what a call changes of that. So the maker of a buffer learns what it holds at the end.
use Rattle.std.specs.Prelude.{◌≡◌, ℕ, ◌≤◌, List, [], ◌∷◌, ◌++◌, drop, Some, None, Ok, Err, Option, Result}
use Rattle.std.specs.Borrow.{GName}
use Rattle.text.specs.declared.refusal.Refusal.{Refusal}
use Rattle.glass.specs.Calls.{GlassCall}

-- the references that a glass holds, by their ghost names; the line of the screen that it is; of a buffer that was lent
-- to it, how many bytes it uses and all that it holds; and the calls that it has on record, if it keeps a record
pub record Tied : Type 0 where
  pub names : List GName
  pub line : ℕ
  pub used : ℕ
  pub bytes : List ℕ
  pub told : Option (List GlassCall)

-- a glass in memory of its own that keeps no record
abbrev pub untied : Tied
untied = record { names = []; line = 0; used = 0; bytes = []; told = None }

-- what is on record after more calls
abbrev pub with_calls : List GlassCall → Option (List GlassCall) → Option (List GlassCall)
with_calls ks None = None
with_calls ks (Some told) = Some (told ++ ks)

-- calls change no reference and no line, and of a lent buffer only bytes that are then used; a record gains just them
pub record StaysTied (ks : List GlassCall) (before after : Tied) : Type 0 where
  pub same_names : after.names ≡ before.names
  pub same_line : after.line ≡ before.line
  pub uses_more : before.used ≤ after.used
  pub rest_kept : drop after.used after.bytes ≡ drop after.used before.bytes
  pub on_record : after.told ≡ with_calls ks before.told

-- a call that was accepted; one that was refused leaves no trace
abbrev pub accepted : GlassCall → Result (Unit {0}) Refusal → List GlassCall
accepted k (Ok x) = k ∷ []
accepted k (Err e) = []
