-- Worked by hand: the prompt "Go to line:", newly opened without history, under the foyer font.
use Rattle.std.specs.Prelude.{◌≡◌, ℕ, true, List, [], ◌∷◌, ◌++◌, take, drop, replicate, codes, Some, Ok}
use Rattle.font.specs.Foyer.{foyer_columns}
use Rattle.glass.specs.Row.{Row, Cell, shown, cell, pen_of, plain_colours, blank_row}
use Rattle.glass.specs.Calls.{apply_all}
use Rattle.draft.specs.declared.action.DisplayAction.TheVariants.{Letter, Redraw}
use Rattle.prompt.specs.declared.keys.Modifiers.TheVariants as modifiers
use Rattle.prompt.specs.declared.keys.KeyCode.TheVariants.{Char}
use Rattle.prompt.specs.Requests.{Request, key, Reply}
use Rattle.prompt.specs.Session.{Session, newly_opened, draft_in_hand, drawn, after, answer}

-- what calls leave of a session on a row of a width, and what each of them answers
abbrev after_all : (width : ℕ) → List Request → Session → Session
after_all width [] s = s
after_all width (x ∷ xs) s = after_all width xs (after foyer_columns width x s)

abbrev answers : (width : ℕ) → List Request → Session → List Reply
answers width [] s = []
answers width (x ∷ xs) s = answer foyer_columns width x s ∷ answers width xs (after foyer_columns width x s)

abbrev started : Session
started = newly_opened (codes "Go to line:") []

-- the row that shows what calls leave
abbrev row_after : (width : ℕ) → List Request → Row
row_after width xs = apply_all foyer_columns (drawn foyer_columns width (after_all width xs started)) (blank_row width)

-- calls leave the draft scrolled to an offset, and the cursor at a column
abbrev Leave : (width : ℕ) → List Request → (offset column : ℕ) → Type 0
Leave width xs offset column = ((draft_in_hand (after_all width xs started)).offset ≡ offset) × ((row_after width xs).column ≡ column)

abbrev typed : ℕ → Request
typed c = key (record { key = Char c; modifiers = modifiers.None })

abbrev letters : ℕ → List Request
letters n = replicate n (typed 0x61)

abbrev ctrl_u : Request
ctrl_u = key (record { key = Char 0x75; modifiers = modifiers.Ctrl })

-- on 40 columns
pub record LettersTyped : Type 0 where
  pub nineteen_go_out_alone : answers 40 (letters 19) started ≡ replicate 19 (Ok (Some Letter))
  pub cursor_after_nineteen : Leave 40 (letters 19) 0 34
  pub the_twentieth_is_drawn : answers 40 (letters 20) started ≡ replicate 19 (Ok (Some Letter)) ++ Ok (Some Redraw) ∷ []
  pub cursor_after_twenty : Leave 40 (letters 20) 0 35
  pub the_next_scrolls : Leave 40 (letters 21) 1 35
  pub all_removed : Leave 40 (letters 21 ++ ctrl_u ∷ []) 0 15

-- on 20 columns
pub record NarrowRow : Type 0 where
  pub one_letter_is_drawn : answers 20 (letters 1) started ≡ Ok (Some Redraw) ∷ []
  pub one_letter_scrolls : Leave 20 (letters 1) 1 15

abbrev reversed : ℕ → Cell
reversed c = cell (shown c) (pen_of plain_colours true)

-- <07>, reversed, in the columns 15 to 18
pub record BellTyped : Type 0 where
  pub label_shown : take 4 (drop 15 (row_after 40 (typed 0x07 ∷ [])).cells) ≡ reversed 0x3C ∷ reversed 0x30 ∷ reversed 0x37 ∷ reversed 0x3E ∷ []
  pub cursor_after_it : Leave 40 (typed 0x07 ∷ []) 0 19
