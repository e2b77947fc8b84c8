-- A letter that goes out alone.
use Rattle.std.specs.Prelude.{◌≡◌, ℕ, [], ◌∷◌}
use Rattle.font.specs.declared.Columns.{Columns}
use Rattle.draft.specs.declared.action.DisplayAction.TheVariants.{Letter}
use Rattle.draft.specs.Draft.{Draft}
use Rattle.draft.specs.Scroll.{WellScrolled}
use Rattle.draft.specs.Edits.{inserting, clamping, answer_to_character}

-- where a well scrolled draft answers Letter, the clamp that follows changes nothing
abbrev pub LetterNeedsNoScrolling : Type 0
LetterNeedsNoScrolling =
    (columns : ℕ → Columns) (room code : ℕ) (d : Draft) → WellScrolled columns room d.line d.offset
    → answer_to_character columns room code d ≡ Letter
    → clamping columns room (inserting (code ∷ []) d) ≡ inserting (code ∷ []) d
