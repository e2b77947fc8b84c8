-- What each key asks for.
use Rattle.std.specs.Prelude.{ℕ, cond, List, [], ◌∷◌, ◌==◌}
use Rattle.prompt.specs.declared.keys.Modifiers.{Modifiers}
use Rattle.prompt.specs.declared.keys.Modifiers.TheVariants as modifiers
use Rattle.prompt.specs.declared.keys.KeyCode.{KeyCode}
use Rattle.prompt.specs.declared.keys.KeyCode.TheVariants as code
use Rattle.prompt.specs.declared.keys.KeyEvent.{KeyEvent}
use Rattle.prompt.specs.declared.keys.Removal.{Removal}
use Rattle.prompt.specs.declared.keys.Removal.TheVariants as removal
use Rattle.prompt.specs.declared.keys.Motion.{Motion}
use Rattle.prompt.specs.declared.keys.Motion.TheVariants as motion
use Rattle.prompt.specs.declared.keys.Edit.TheVariants.{Insert, Remove, Move, Transpose}
use Rattle.prompt.specs.declared.keys.Operation.{Operation}
use Rattle.prompt.specs.declared.keys.Operation.TheVariants.{Finish, Cancel, Edit, Previous, Next, Ignore}

-- the operation of a character that is typed
abbrev pub typing : (character : ℕ) → Operation
typing c = Edit (Insert c)

abbrev pub remove_to : Removal → Operation
remove_to r = Edit (Remove r)

abbrev pub go_to : Motion → Operation
go_to m = Edit (Move m)

-- a character, and what it asks for
pub record Bound : Type 0 where
  pub character : ℕ
  pub asks : Operation

abbrev bound : ℕ → Operation → Bound
bound c o = record { character = c; asks = o }

abbrev pub asked_by : List Bound → ℕ → Operation
asked_by [] c = Ignore
asked_by (b ∷ bs) c = cond (c == b.character) b.asks (asked_by bs c)

-- Ctrl and j m c h d w f b k u e a t
abbrev pub ctrl_character : ℕ → Operation
ctrl_character =
    asked_by
    (bound 0x6A Finish ∷ bound 0x6D Finish ∷ bound 0x63 Cancel ∷
    bound 0x68 (remove_to removal.PrevChar) ∷ bound 0x64 (remove_to removal.NextChar) ∷ bound 0x77 (remove_to removal.PrevWord) ∷
    bound 0x66 (go_to motion.Right) ∷ bound 0x62 (go_to motion.Left) ∷
    bound 0x6B (remove_to removal.ToEnd) ∷ bound 0x75 (remove_to removal.ToStart) ∷
    bound 0x65 (go_to motion.End) ∷ bound 0x61 (go_to motion.Start) ∷ bound 0x74 (Edit Transpose) ∷ [])

-- Alt and d f b
abbrev pub alt_character : ℕ → Operation
alt_character = asked_by (bound 0x64 (remove_to removal.NextWord) ∷ bound 0x66 (go_to motion.NextWord) ∷ bound 0x62 (go_to motion.PrevWord) ∷ [])

abbrev plain : KeyCode → Operation
plain (code.Char c) = typing c
plain code.Enter = Finish
plain code.Escape = Cancel
plain code.Backspace = remove_to removal.PrevChar
plain code.Delete = remove_to removal.NextChar
plain code.Left = go_to motion.Left
plain code.Right = go_to motion.Right
plain code.Up = Previous
plain code.Down = Next
plain code.Home = go_to motion.Start
plain code.End = go_to motion.End
plain code.Other = Ignore

abbrev ctrl : KeyCode → Operation
ctrl (code.Char c) = ctrl_character c
ctrl code.Left = go_to motion.PrevWord
ctrl code.Right = go_to motion.NextWord
ctrl _ = Ignore

abbrev alt : KeyCode → Operation
alt (code.Char c) = alt_character c
alt code.Backspace = remove_to removal.PrevWord
alt _ = Ignore

abbrev held : Modifiers → KeyCode → Operation
held modifiers.None k = plain k
held modifiers.Ctrl k = ctrl k
held modifiers.Alt k = alt k
held modifiers.Other k = Ignore

abbrev pub operation : KeyEvent → Operation
operation event = held event.modifiers event.key
