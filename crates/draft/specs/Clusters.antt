-- A cluster is a character with the marks that follow it.
use Rattle.std.specs.Prelude.{◌≡◌, ℕ, ◌<◌, false, ◌⊎◌, length, slice_index}
use Rattle.font.specs.declared.Columns.{Columns}
use Rattle.font.specs.Labels.{is_mark}
use Rattle.draft.specs.Line.{Line, moved_to, left_of, right_of}

-- the place is at the start of the line, or before a character that is no mark
abbrev pub StartsCluster : (ℕ → Columns) → Line → Type 0
StartsCluster columns l = (l.place ≡ 0) ⊎ ((l.place < length l.text) × (is_mark (columns (slice_index l.text l.place)) ≡ false))

-- Right and then Left come back to where a cluster starts
abbrev pub LeftUndoesRight : Type 0
LeftUndoesRight = (columns : ℕ → Columns) (l : Line) → StartsCluster columns l → left_of columns (moved_to (right_of columns l) l) ≡ l.place

-- and to no other place
abbrev pub LeftUndoesRightOnlyThere : Type 0
LeftUndoesRightOnlyThere = (columns : ℕ → Columns) (l : Line) → left_of columns (moved_to (right_of columns l) l) ≡ l.place → StartsCluster columns l
