-- What a draft in memory means: its line, and its offset, the number of characters that lie out of sight on the left.
use Rattle.std.specs.Prelude.{◌≡◌, ℕ, ◌≤◌, true, List, length, take, drop}
use Rattle.std.proofs.Math.Utf8.{scalars}
use Rattle.draft.specs.declared.state.PromptState.{PromptState}
use Rattle.draft.specs.Line.{Line, line, capacity}

pub record Draft : Type 0 where
  pub line : Line
  pub offset : ℕ

abbrev pub draft : Line → ℕ → Draft
draft l o = record { line = l; offset = o }

-- the text is the front of the memory that is in use
abbrev pub draft_of : PromptState → Draft
draft_of s = draft (line (take s.len s.value) s.position) s.offset

-- the characters from the offset on
abbrev pub shown_text : Draft → List ℕ
shown_text d = drop d.offset d.line.text

pub record Sound (d : Draft) : Type 0 where
  pub offset_up_to_place : d.offset ≤ d.line.place
  pub place_up_to_end : d.line.place ≤ length d.line.text
  pub at_most_capacity : length d.line.text ≤ capacity
  pub scalar_values : scalars d.line.text ≡ true

abbrev pub DraftsAreSound : Type 0
DraftsAreSound = (s : PromptState) → Sound (draft_of s)
