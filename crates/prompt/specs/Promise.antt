-- What a seller may rely on over any list of calls.
use Rattle.std.specs.Prelude.{◌≡◌, ℕ, suc, ◌<◌, ◌≤◌, Bool, false, List, [], ◌∷◌, length, get_or, take, Some, None, slice_index_or, Ok, Err}
use Rattle.font.specs.declared.Columns.{Columns}
use Rattle.text.specs.declared.refusal.Refusal.{Refusal}
use Rattle.glass.specs.Row.{Row, width_of}
use Rattle.prompt.specs.declared.state.Prompt.{Prompt}
use Rattle.drawing.specs.Sight.{RowIsDrawing, CursorInSight}
use Rattle.prompt.specs.Requests.{Request, draw, was_refused, Reply}
use Rattle.prompt.specs.Ledger.{opened, fed}
use Rattle.prompt.specs.Session.{Session, session, draft_in_hand, ledger, answer, refused_now, drawn_at}

-- The row, its pen and its cursor are those that the drawing of the prompt makes of a blank row.
abbrev pub ShowsThePrompt : (ℕ → Columns) → Session → Row → Type 0
ShowsThePrompt columns s r = RowIsDrawing columns s.label (draft_in_hand s) r

-- call i is a draw, and it was not refused
pub record AcceptedDraw (xs : List Request) (rs : List Reply) (i : ℕ) : Type 0 where
  pub is_a_call : i < length xs
  pub is_draw : get_or xs i draw ≡ draw
  pub is_accepted : was_refused (slice_index_or rs i (Ok None)) ≡ false

-- each call with whether it was refused
abbrev pub refusals : List Request → List Reply → List (Request × Bool)
refusals [] rs = []
refusals (x ∷ xs) [] = []
refusals (x ∷ xs) (r ∷ rs) = (x, was_refused r) ∷ refusals xs rs

-- Calls xs with replies rs lead from p, a prompt newly opened with the remembered texts, and the glass g as found
-- to q and h.
pub record RowShowsTheDraft {G : Type 0} (columns : ℕ → Columns) (row : G → Row) (spare : G → ℕ) (texts : List (List ℕ)) (xs : List Request) (rs : List Reply) (p : Prompt) (g : G) (q : Prompt) (h : G) : Type 0 where
  -- what the first i calls leave
  pub prompt_after : ℕ → Prompt
  pub glass_after : ℕ → G
  pub at_first : (prompt_after 0 ≡ p) × (glass_after 0 ≡ g)
  pub at_last : (prompt_after (length xs) ≡ q) × (glass_after (length xs) ≡ h)
  -- a call is refused exactly where the table says so of what it finds, and changes nothing then
  pub refused_by_the_table : (i : ℕ) → i < length xs → (e : Refusal)
      → refused_now columns row spare (slice_index_or xs i draw) (prompt_after i) (glass_after i) ≡ Some e
      → (slice_index_or rs i (Ok None) ≡ Err e) × (prompt_after (suc i) ≡ prompt_after i) × (glass_after (suc i) ≡ glass_after i)
  pub else_answered_by_the_rules : (i : ℕ) → i < length xs
      → refused_now columns row spare (slice_index_or xs i draw) (prompt_after i) (glass_after i) ≡ None
      → (slice_index_or rs i (Ok None) ≡ answer columns (drawn_at columns row spare (slice_index_or xs i draw) (glass_after i)) (slice_index_or xs i draw) (session (prompt_after i)))
      × (width_of (row (glass_after (suc i))) ≡ drawn_at columns row spare (slice_index_or xs i draw) (glass_after i))
  -- from the first accepted draw on
  pub row_is_drawing : (i j : ℕ) → AcceptedDraw xs rs i → i < j → j ≤ length xs
      → ShowsThePrompt columns (session (prompt_after j)) (row (glass_after j))
  pub cursor_in_sight : (i j : ℕ) → AcceptedDraw xs rs i → i < j → j ≤ length xs
      → CursorInSight columns (session (prompt_after j)).label (draft_in_hand (session (prompt_after j))) (row (glass_after j))
  -- and always
  pub drafts_are_ledger : (j : ℕ) → j ≤ length xs
      → ledger (session (prompt_after j)) ≡ fed columns (opened texts) (refusals (take j xs) (take j rs))
