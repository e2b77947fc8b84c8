-- What each edit makes of a draft, and what it answers.
use Rattle.std.specs.Prelude.{ℕ, ◌+◌, ◌-◌, min, Bool, true, false, cond, not, ◌&&◌, List, [], ◌∷◌, length, Some, None, Ok, Err, Option, Result, ◌==◌, nat_le, nat_lt}
use Rattle.std.proofs.Math.Utf8.{scalars}
use Rattle.text.specs.declared.refusal.Refusal.{Refusal}
use Rattle.text.specs.declared.refusal.Refusal.TheVariants.{NotScalar, IllFormed, DraftFull}
use Rattle.text.specs.Utf8.{characters, well_formed, front_length}
use Rattle.font.specs.declared.Columns.{Columns}
use Rattle.font.specs.Labels.{has_label}
use Rattle.draft.specs.declared.action.DisplayAction.{DisplayAction}
use Rattle.draft.specs.declared.action.DisplayAction.TheVariants.{Nothing, Letter, Redraw}
use Rattle.draft.specs.Line.{Line, capacity, with_inserted, removed_to, moved_to, with_swapped, can_swap}
use Rattle.draft.specs.Draft.{Draft, draft}
use Rattle.draft.specs.Scroll.{shown_columns, margin, clamped}

-- another line in a draft: its offset is lowered to the place, where that lies below
abbrev pub with_line : Line → Draft → Draft
with_line l d = draft l (min d.offset l.place)

abbrev pub inserting : List ℕ → Draft → Draft
inserting cs d = with_line (with_inserted cs d.line) d

-- what lies between the place and the reach goes
abbrev pub removing : (reach : Line → ℕ) → Draft → Draft
removing reach d = with_line (removed_to (reach d.line) d.line) d

-- the place moves to the reach
abbrev pub moving : (reach : Line → ℕ) → Draft → Draft
moving reach d = with_line (moved_to (reach d.line) d.line) d

abbrev pub swapping : Draft → Draft
swapping d = with_line (with_swapped d.line) d

abbrev pub clamping : (ℕ → Columns) → (room : ℕ) → Draft → Draft
clamping columns room d = draft d.line (clamped columns room d.line d.offset)

abbrev pub redraw_if : Bool → DisplayAction
redraw_if true = Redraw
redraw_if false = Nothing

-- an edit that reaches no further than the place has nothing to remove or to pass
abbrev pub answer_by : (reach : Line → ℕ) → Draft → DisplayAction
answer_by reach d = redraw_if (not (reach d.line == d.line.place))

abbrev pub answer_to_swap : Draft → DisplayAction
answer_to_swap d = redraw_if (can_swap d.line)

-- a character without a label that was typed at the end, and more columns than the margin are left then
abbrev pub goes_out_alone : (ℕ → Columns) → (room code : ℕ) → Draft → Bool
goes_out_alone columns room code d =
    not (has_label (columns code)) && d.line.place == length d.line.text && nat_lt (shown_columns columns (with_inserted (code ∷ []) d.line) d.offset) (room - margin)

abbrev pub answer_to_character : (ℕ → Columns) → (room code : ℕ) → Draft → DisplayAction
answer_to_character columns room code d = cond (goes_out_alone columns room code d) Letter Redraw

-- why characters may not come in, if so
abbrev pub insertion_refused : List ℕ → Draft → Option Refusal
insertion_refused cs d =
    cond (scalars cs) (cond (nat_le (length d.line.text + length cs) capacity) None (Some DraftFull)) (Some NotScalar)

-- why the text that bytes spell may not come in, if so: they spell none, or it is too long
abbrev pub pasting_refused : (bytes : List ℕ) → Draft → Option Refusal
pasting_refused bytes d =
    cond (well_formed bytes) (cond (nat_le (length d.line.text + length (characters bytes)) capacity) None (Some DraftFull)) (Some (IllFormed (front_length bytes)))

-- what a call answers that may be refused
abbrev pub unless_refused : {A : Type 0} → Option Refusal → A → Result A Refusal
unless_refused None answer = Ok answer
unless_refused (Some refusal) answer = Err refusal
