-- Worked by hand.
use Rattle.std.specs.Prelude.{◌≡◌, ℕ, [], ◌∷◌, codes}
use Rattle.font.specs.declared.Columns.{Columns}
use Rattle.font.specs.declared.Columns.TheVariants.{Zero, One}
use Rattle.draft.specs.Line.{line, prev_word, left_of}
use Rattle.draft.specs.Draft.{draft}
use Rattle.draft.specs.Edits.{removing}

-- the last word of three goes
abbrev pub LastWordGoes : Type 0
LastWordGoes = removing prev_word (draft (line (codes "row F 12") 8) 0) ≡ draft (line (codes "row F ") 6) 0

-- a space at the start of the line stays
abbrev pub FirstSpaceStays : Type 0
FirstSpaceStays = removing prev_word (draft (line (codes " ab") 3) 0) ≡ draft (line (codes " ") 1) 0

-- an a with an acute accent, and a b: Left goes to the b, and then past the accent
abbrev pub LeftPassesTheAccent : Type 0
LeftPassesTheAccent =
    (columns : ℕ → Columns) → columns 0x61 ≡ One → columns 0x301 ≡ Zero → columns 0x62 ≡ One
    → (left_of columns (line (0x61 ∷ 0x301 ∷ 0x62 ∷ []) 3) ≡ 2) × (left_of columns (line (0x61 ∷ 0x301 ∷ 0x62 ∷ []) 2) ≡ 0)
