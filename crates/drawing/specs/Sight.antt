-- What a seller sees of a draft.
use Rattle.std.specs.Prelude.{◌≡◌, ℕ, ◌+◌, ◌-◌, ◌<◌, ◌≤◌, ◌⊎◌, List, slice_index}
use Rattle.font.specs.declared.Columns.{Columns}
use Rattle.glass.specs.Row.{Row, blank_row, width_of}
use Rattle.glass.specs.Calls.{apply_all}
use Rattle.draft.specs.Line.{line}
use Rattle.draft.specs.Draft.{Draft}
use Rattle.draft.specs.Scroll.{shown_columns, margin}
use Rattle.drawing.specs.Drawing.{text_start, cursor_column, drawing}
use Rattle.drawing.specs.Shows.{ShowsWhole}

-- The row, its pen and its cursor are those that the drawing makes of a blank row.
abbrev pub RowIsDrawing : (ℕ → Columns) → (label : List ℕ) → Draft → Row → Type 0
RowIsDrawing columns label d r = r ≡ apply_all columns (drawing columns label d (width_of r)) (blank_row (width_of r))

-- The cursor has the margin on its right; every character from the offset up to the place shows whole; and the draft is scrolled
-- no further than that asks.
pub record CursorInSight (columns : ℕ → Columns) (label : List ℕ) (d : Draft) (r : Row) : Type 0 where
  pub cursor_is_at_the_place : r.column ≡ cursor_column columns label d
  pub cursor_has_five_on_its_right : r.column + margin ≤ width_of r
  pub characters_show_whole : (k : ℕ) → d.offset ≤ k → k < d.line.place
      → ShowsWhole columns r.cells (text_start label + shown_columns columns (line d.line.text k) d.offset) (slice_index d.line.text k)
  pub scrolled_no_further : (d.offset ≡ 0)
      ⊎ ((margin ≤ shown_columns columns d.line d.offset)
      ⊎ (width_of r < text_start label + shown_columns columns d.line (d.offset - 1) + margin))
