-- What each edit does to the line in hand, and what it answers. The line knows nothing of widths or scrolling.
use Rattle.std.specs.Prelude.{ℕ, [], ◌∷◌, None, Option}
use Rattle.text.specs.declared.refusal.Refusal.{Refusal}
use Rattle.font.specs.declared.Columns.{Columns}
use Rattle.draft.specs.declared.action.DisplayAction.{DisplayAction}
use Rattle.draft.specs.declared.action.DisplayAction.TheVariants.{Redraw}
use Rattle.draft.specs.Line.{Line, with_inserted, removed_to, moved_to, with_swapped, prev_char, next_char, prev_word, next_word, line_start, line_end, left_of, right_of}
use Rattle.draft.specs.Draft.{Draft}
use Rattle.draft.specs.Edits.{with_line, answer_by, answer_to_swap, answer_to_character, insertion_refused}
use Rattle.prompt.specs.declared.keys.Removal.{Removal}
use Rattle.prompt.specs.declared.keys.Removal.TheVariants as removal
use Rattle.prompt.specs.declared.keys.Motion.{Motion}
use Rattle.prompt.specs.declared.keys.Motion.TheVariants as motion
use Rattle.prompt.specs.declared.keys.Edit.{Edit}
use Rattle.prompt.specs.declared.keys.Edit.TheVariants.{Insert, Remove, Move, Transpose}

-- how far a removal reaches from the place
abbrev pub removes_to : Removal → Line → ℕ
removes_to removal.PrevChar l = prev_char l
removes_to removal.NextChar l = next_char l
removes_to removal.PrevWord l = prev_word l
removes_to removal.NextWord l = next_word l
removes_to removal.ToStart l = line_start l
removes_to removal.ToEnd l = line_end l

-- where a motion goes
abbrev pub goes_to : (ℕ → Columns) → Motion → Line → ℕ
goes_to columns motion.Left l = left_of columns l
goes_to columns motion.Right l = right_of columns l
goes_to columns motion.PrevWord l = prev_word l
goes_to columns motion.NextWord l = next_word l
goes_to columns motion.Start l = line_start l
goes_to columns motion.End l = line_end l

abbrev pub edited : (ℕ → Columns) → Edit → Line → Line
edited columns (Insert c) l = with_inserted (c ∷ []) l
edited columns (Remove r) l = removed_to (removes_to r l) l
edited columns (Move m) l = moved_to (goes_to columns m l) l
edited columns Transpose l = with_swapped l

-- a draft with its line edited
abbrev pub editing : (ℕ → Columns) → Edit → Draft → Draft
editing columns e d = with_line (edited columns e d.line) d

-- to the start and to the end is always drawn anew, and any other motion where there was somewhere to go
abbrev pub answer_to_motion : (ℕ → Columns) → Motion → Draft → DisplayAction
answer_to_motion columns motion.Left d = answer_by (left_of columns) d
answer_to_motion columns motion.Right d = answer_by (right_of columns) d
answer_to_motion columns motion.PrevWord d = answer_by prev_word d
answer_to_motion columns motion.NextWord d = answer_by next_word d
answer_to_motion columns motion.Start d = Redraw
answer_to_motion columns motion.End d = Redraw

abbrev pub answer_to_edit : (ℕ → Columns) → (room : ℕ) → Edit → Draft → DisplayAction
answer_to_edit columns room (Insert c) d = answer_to_character columns room c d
answer_to_edit columns room (Remove r) d = answer_by (removes_to r) d
answer_to_edit columns room (Move m) d = answer_to_motion columns m d
answer_to_edit columns room Transpose d = answer_to_swap d

-- why an edit may not be made, if so
abbrev pub edit_refused : Edit → Draft → Option Refusal
edit_refused (Insert c) d = insertion_refused (c ∷ []) d
edit_refused _ d = None
