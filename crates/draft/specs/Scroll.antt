-- From which character on a line is shown.
use Rattle.std.specs.Prelude.{◌≡◌, ℕ, zero, suc, ◌-◌, ◌<◌, ◌≤◌, min, cond, ◌⊎◌, nat_lt}
use Rattle.font.specs.declared.Columns.{Columns}
use Rattle.font.specs.Labels.{text_columns, between}
use Rattle.draft.specs.Line.{Line}

-- the columns that scrolling keeps in sight on the left of the cursor, and free on the right of it
abbrev pub margin : ℕ
margin = 5

-- the columns from an offset up to the place
abbrev pub shown_columns : (ℕ → Columns) → Line → (offset : ℕ) → ℕ
shown_columns columns l offset = text_columns columns (between offset l.place l.text)

-- down while fewer columns than the margin show on the left of the cursor
abbrev pub fallen : (ℕ → Columns) → Line → (offset : ℕ) → ℕ
fallen columns l zero = zero
fallen columns l (suc o) = cond (nat_lt (shown_columns columns l (suc o)) margin) (fallen columns l o) (suc o)

-- up while they are more than `most`, `steps` times at most
abbrev pub risen : (ℕ → Columns) → (most : ℕ) → Line → (steps offset : ℕ) → ℕ
risen columns most l zero o = o
risen columns most l (suc steps) o = cond (nat_lt most (shown_columns columns l o)) (risen columns most l steps (suc o)) o

abbrev pub risen_to_place : (ℕ → Columns) → (most : ℕ) → Line → (offset : ℕ) → ℕ
risen_to_place columns most l o = risen columns most l (l.place - o) o

-- The clamp, with `room` columns for the text: the offset is lowered to the place, falls, and rises.
abbrev pub clamped : (ℕ → Columns) → (room : ℕ) → Line → (offset : ℕ) → ℕ
clamped columns room l offset = risen_to_place columns (room - margin) l (fallen columns l (min offset l.place))

-- What scrolling is for. The cursor keeps its margin on the right, and the line is scrolled no further than that asks:
-- it shows from its start, or there is a margin on the left too, or one character more on the left would be too many.
pub record WellScrolled (columns : ℕ → Columns) (room : ℕ) (l : Line) (offset : ℕ) : Type 0 where
  pub offset_up_to_place : offset ≤ l.place
  pub margin_on_the_right : shown_columns columns l offset ≤ room - margin
  pub no_further_than_needed : (offset ≡ 0) ⊎ ((margin ≤ shown_columns columns l offset) ⊎ (room - margin < shown_columns columns l (offset - 1)))

-- wherever the offset was, the clamp leaves the line well scrolled
abbrev pub ClampScrollsWell : Type 0
ClampScrollsWell = (columns : ℕ → Columns) (room : ℕ) (l : Line) (offset : ℕ) → WellScrolled columns room l (clamped columns room l offset)

-- and it leaves a well scrolled line as it is
abbrev pub ClampKeepsWellScrolled : Type 0
ClampKeepsWellScrolled = (columns : ℕ → Columns) (room : ℕ) (l : Line) (offset : ℕ) → WellScrolled columns room l offset → clamped columns room l offset ≡ offset
