-- The pieces that a draft is drawn in.
use Rattle.std.specs.Prelude.{◌≡◌, ℕ, ◌<◌, true, false, List, [], ◌∷◌, ◌++◌, length}
use Rattle.font.specs.declared.Columns.{Columns}
use Rattle.font.specs.Labels.{has_label}
use Rattle.drawing.specs.declared.piece.Piece.{Piece}
use Rattle.drawing.specs.declared.piece.Piece.TheVariants.{Run, Label}

-- every character has a width
abbrev pub Unlabelled : (ℕ → Columns) → List ℕ → Type 0
Unlabelled columns [] = Unit {0}
Unlabelled columns (c ∷ cs) = (has_label (columns c) ≡ false) × Unlabelled columns cs

-- the text is at its end, or goes on with a character that shows as its label
abbrev pub StopsRun : (ℕ → Columns) → List ℕ → Type 0
StopsRun columns [] = Unit {0}
StopsRun columns (c ∷ cs) = has_label (columns c) ≡ true

-- A piece stands first in a text, and `rest` comes after it: a character that shows as its label, or all the characters up to the
-- next such.
abbrev pub StandsFirst : (ℕ → Columns) → (text : List ℕ) → Piece → (rest : List ℕ) → Type 0
StandsFirst columns text (Run run) rest = (text ≡ run.now ++ rest) × (0 < length run.now) × Unlabelled columns run.now × StopsRun columns rest
StandsFirst columns text (Label code) rest = (text ≡ code ∷ rest) × (has_label (columns code) ≡ true)
