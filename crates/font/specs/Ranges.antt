-- A table of ranges of codes, each with its columns.
use Rattle.std.specs.Prelude.{ℕ, suc, Bool, true, cond, ◌&&◌, List, [], ◌∷◌, nat_le}
use Rattle.text.specs.Scalars.{within}
use Rattle.font.specs.declared.Columns.{Columns}
use Rattle.font.specs.declared.Columns.TheVariants.{One}

-- The first and the last of some codes, and the columns that each of them takes.
abbrev pub CodeRange : Type 0
CodeRange = ℕ × ℕ × Columns

-- What a table says of c: the columns of the range that holds it, or one column where none does.
abbrev pub listed : List CodeRange → ℕ → Columns
listed [] c = One
listed ((first, last, columns) ∷ ranges) c = cond (within first last c) columns (listed ranges c)

-- The ranges rise without overlapping: none is empty, the first begins at `floor` or later, and each next one past the end of the one before.
abbrev pub rises_from : ℕ → List CodeRange → Bool
rises_from floor [] = true
rises_from floor ((first, last, columns) ∷ ranges) = nat_le floor first && (nat_le first last && rises_from (suc last) ranges)

-- The first and last codes of the ranges whose columns pass a test.
abbrev pub ranges_of : (Columns → Bool) → List CodeRange → List (ℕ × ℕ)
ranges_of test [] = []
ranges_of test ((first, last, columns) ∷ ranges) = cond (test columns) ((first, last) ∷ ranges_of test ranges) (ranges_of test ranges)
