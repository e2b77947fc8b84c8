-- Where the marks of a column stand in a table, and what becomes of them.
use Rattle.std.specs.Prelude.{◌≡◌, ◌≢◌, ℕ, ◌<◌, ◌≤◌, List, []}
use Rattle.std.specs.List.Sorted.{IsPartitionPoint}
use Rattle.cells.specs.declared.table.Mark.{Mark}
use Rattle.cells.specs.Slots.{marks_of}

-- in a table in the order of columns, those before a column end at `start`
abbrev pub StartsAt : (k : ℕ) → List Mark → (start : ℕ) → Type 0
StartsAt k ms start = IsPartitionPoint (λ m. m.column < k) (λ m. k ≤ m.column) ms start

-- in such a table, those behind a column begin at `end`
abbrev pub EndsAt : (k : ℕ) → List Mark → (end : ℕ) → Type 0
EndsAt k ms end = IsPartitionPoint (λ m. m.column ≤ k) (λ m. k < m.column) ms end

-- the marks of a column stand from `start` up to `end`
pub record IsRun (k : ℕ) (ms : List Mark) (start end : ℕ) : Type 0 where
  pub starts : StartsAt k ms start
  pub ends : EndsAt k ms end

-- the marks of one column are these now, and all others' are what they were
pub record ChangesOnly (k : ℕ) (codes : List ℕ) (before after : List Mark) : Type 0 where
  pub here : marks_of k after ≡ codes
  pub elsewhere : (j : ℕ) → j ≢ k → marks_of j after ≡ marks_of j before

-- there are none from a column on now, and all others are what they were
pub record CutAt (k : ℕ) (before after : List Mark) : Type 0 where
  pub kept : (j : ℕ) → j < k → marks_of j after ≡ marks_of j before
  pub gone : (j : ℕ) → k ≤ j → marks_of j after ≡ []
