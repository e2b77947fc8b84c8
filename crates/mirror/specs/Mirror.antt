-- The same calls on a cell row and on a recorder.
use Rattle.std.specs.Prelude.{◌≡◌, ℕ, true, List, take, is_ok}
use Rattle.font.specs.declared.Columns.{Columns}
use Rattle.glass.specs.Row.{blank_row}
use Rattle.glass.specs.Calls.{GlassCall, apply_all}
use Rattle.glass.specs.Performed.{made}
use Rattle.cells.specs.Shows.{shows}
use Rattle.recorder.specs.Log.{log_row}
use Rattle.mirror.specs.declared.Mirrored.{Mirrored}

-- each shows what the calls that it took make of a blank row, and the same where both took all
pub record Mirrors {F : Type 0} (columns : ℕ → Columns) (width : ℕ) (ks : List GlassCall) (m : Mirrored F) (buffer : List ℕ) : Type 0 where
  pub on_cells : shows m.cells ≡ apply_all columns (made ks m.drawn) (blank_row width)
  pub on_recorder : log_row columns (take m.used buffer) ≡ apply_all columns (made ks m.recorded) (blank_row width)
  pub same_row : is_ok m.drawn ≡ true → is_ok m.recorded ≡ true → log_row columns (take m.used buffer) ≡ shows m.cells
