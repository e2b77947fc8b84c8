-- A list of calls performed on a glass.
use Rattle.std.specs.Prelude.{◌≡◌, ℕ, ◌<◌, List, length, take, Some, Ok, Err, Result, MatchResult, slice_index_or}
use Rattle.font.specs.declared.Columns.{Columns}
use Rattle.glass.specs.declared.calls.Call.{Call}
use Rattle.glass.specs.declared.calls.Call.TheVariants.{Place, Pen, Text, Clear, Reshape}
use Rattle.glass.specs.declared.calls.Stopped.{Stopped}
use Rattle.glass.specs.Row.{Row, width_of}
use Rattle.glass.specs.Calls.{GlassCall, place, pen, text, clear, reshape, refused, Drew}

abbrev pub call_of : Call → GlassCall
call_of (Place column) = place column
call_of (Pen change) = pen change
call_of (Text characters) = text characters.now
call_of Clear = clear
call_of (Reshape width) = reshape width

-- the first calls were made on the glass g, which is h then, and the next one is refused there
pub record StoppedAt {G : Type 0} (columns : ℕ → Columns) (row : G → Row) (spare : G → ℕ) (ks : List GlassCall) (g : G) (s : Stopped) (h : G) : Type 0 where
  pub before_the_end : s.made < length ks
  pub drew : Drew columns row spare (take s.made ks) g h
  pub refused_next : refused (slice_index_or ks s.made clear) (width_of (row h)) (spare h) ≡ Some s.refusal

-- all the calls were made, or those before the one that is refused
abbrev pub Performed : {G : Type 0} → (ℕ → Columns) → (G → Row) → (G → ℕ) → List GlassCall → G → Result (Unit {0}) Stopped → G → Type 0
Performed columns row spare ks g r h = MatchResult r (λ _. Drew columns row spare ks g h) (λ s. StoppedAt columns row spare ks g s h)

-- the calls that were made
abbrev pub made : List GlassCall → Result (Unit {0}) Stopped → List GlassCall
made ks (Ok x) = ks
made ks (Err s) = take s.made ks
