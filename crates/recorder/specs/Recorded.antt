-- The log of a recorder, and what it has to spare.
use Rattle.std.specs.Prelude.{◌≡◌, ℕ, ◌+◌, ◌-◌, ◌/◌, List, [], ◌∷◌, ◌++◌, length, take, drop, Some}
use Rattle.font.specs.declared.Columns.{Columns}
use Rattle.glass.specs.Row.{Row}
use Rattle.glass.specs.Ties.{Tied}
use Rattle.recorder.specs.Log.{log_row, calls_in}
use Rattle.recorder.specs.declared.recorder.Recorder.{Recorder}

abbrev pub log : {F : Type 0} → Recorder F → List ℕ
log s = take s.used s.bytes.now

-- the row that its log makes
abbrev pub shown_by : {F : Type 0} → (ℕ → Columns) → Recorder F → Row
shown_by columns s = log_row columns (log s)

-- the free bytes divided by 8, cut
abbrev pub spare_of : {F : Type 0} → Recorder F → ℕ
spare_of s = (s.limit - s.used) / 8

-- it is tied to its buffer and its line, and has the calls of its log on record
abbrev pub tied_of : {F : Type 0} → Recorder F → Tied
tied_of s = record { names = s.bytes.ghost_name ∷ []; line = s.line; used = s.used; bytes = s.bytes.now; told = Some (calls_in (log s)) }

-- h is s with more bytes at the end of its log, and all else of the buffer as it was
pub record Grown {F : Type 0} (more : List ℕ) (s h : Recorder F) : Type 0 where
  pub longer : log h ≡ log s ++ more
  pub uses_more : h.used ≡ s.used + length more
  pub rest_kept : drop h.used h.bytes.now ≡ drop h.used s.bytes.now
  pub same_limit : h.limit ≡ s.limit
  pub same_line : h.line ≡ s.line
  pub same_buffer : h.bytes.ghost_name ≡ s.bytes.ghost_name
