-- A prompt as a value, and what one call makes of it and of its glass.
use Rattle.std.specs.Prelude.{◌≡◌, ℕ, ◌+◌, ◌-◌, Bool, true, false, cond, List, [], ◌∷◌, ◌++◌, map, length, Some, None, Option, nat_lt, slice_index_or, slice_set, Ok, Err}
use Rattle.text.specs.declared.refusal.Refusal.{Refusal}
use Rattle.text.specs.Utf8.{characters}
use Rattle.font.specs.declared.Columns.{Columns}
use Rattle.glass.specs.Row.{Row, width_of}
use Rattle.glass.specs.Calls.{GlassCall, text, reshape, apply_all}
use Rattle.draft.specs.declared.action.DisplayAction.{DisplayAction}
use Rattle.draft.specs.declared.action.DisplayAction.TheVariants as action
use Rattle.draft.specs.Line.{line, empty_line}
use Rattle.draft.specs.Draft.{Draft, draft}
use Rattle.draft.specs.Edits.{inserting, clamping, redraw_if}
use Rattle.drawing.specs.Drawing.{drawing, text_start}
use Rattle.history.specs.Session.{session_of}
use Rattle.prompt.specs.declared.keys.Edit.TheVariants.{Insert}
use Rattle.prompt.specs.declared.keys.Operation.{Operation}
use Rattle.prompt.specs.declared.keys.Operation.TheVariants as operation
use Rattle.prompt.specs.declared.state.Prompt.{Prompt}
use Rattle.prompt.specs.Keys.{operation as operation_of}
use Rattle.prompt.specs.Edits.{editing, answer_to_edit}
use Rattle.prompt.specs.Requests.{Request, draw, key, paste, resize, Reply}
use Rattle.prompt.specs.Ledger.{Ledger, hand_back, hand_on, entered}
use Rattle.prompt.specs.Refused.{refusal, width_after}

pub record Session : Type 0 where
  pub label : List ℕ
  pub drafts : List Draft
  pub hand : ℕ

abbrev pub session : Prompt → Session
session p = record { label = p.label.items; drafts = (session_of p.history).drafts; hand = (session_of p.history).hand }

abbrev pub empty_draft : Draft
empty_draft = draft empty_line 0

abbrev pub draft_in_hand : Session → Draft
draft_in_hand s = slice_index_or s.drafts s.hand empty_draft

-- texts, places and which is in hand
abbrev pub ledger : Session → Ledger
ledger s = record { lines = map (λ d. d.line) s.drafts; hand = s.hand }

-- the remembered texts, each with its place at the end and shown from its start, and then an empty draft, in hand
abbrev pub newly_opened : (label : List ℕ) (texts : List (List ℕ)) → Session
newly_opened label texts = record {
  label = label;
  drafts = map (λ t. draft (line t (length t)) 0) texts ++ (empty_draft ∷ []);
  hand = length texts;
}

-- the columns for the text
abbrev pub room : (width : ℕ) → Session → ℕ
room width s = width - text_start s.label

abbrev pub drawn : (ℕ → Columns) → (width : ℕ) → Session → List GlassCall
drawn columns width s = drawing columns s.label (draft_in_hand s) width

abbrev pub with_draft : Draft → Session → Session
with_draft d s = record { label = s.label; drafts = slice_set s.drafts s.hand d; hand = s.hand }

abbrev pub with_hand : ℕ → Session → Session
with_hand h s = record { label = s.label; drafts = s.drafts; hand = h }

abbrev pub scrolled : (ℕ → Columns) → (width : ℕ) → Session → Session
scrolled columns width s = with_draft (clamping columns (room width s) (draft_in_hand s)) s

abbrev pub operated : (ℕ → Columns) → Operation → Session → Session
operated columns operation.Finish s = s
operated columns operation.Cancel s = s
operated columns (operation.Edit e) s = with_draft (editing columns e (draft_in_hand s)) s
operated columns operation.Previous s = with_hand (hand_back s.hand) s
operated columns operation.Next s = with_hand (hand_on (length s.drafts) s.hand) s
operated columns operation.Ignore s = s

-- whether the draft in hand is scrolled after the operation
abbrev pub scrolls : Operation → Bool
scrolls operation.Finish = false
scrolls operation.Cancel = false
scrolls (operation.Edit e) = true
scrolls operation.Previous = true
scrolls operation.Next = true
scrolls operation.Ignore = false

abbrev pub after_operation : (ℕ → Columns) → (width : ℕ) → Operation → Session → Session
after_operation columns width o s = cond (scrolls o) (scrolled columns width (operated columns o s)) s

-- the prompt after an accepted call, at the width that it draws at
abbrev pub after : (ℕ → Columns) → (width : ℕ) → Request → Session → Session
after columns width draw s = s
after columns width (key event) s = after_operation columns width (operation_of event) s
after columns width (paste bytes) s = scrolled columns width (with_draft (inserting (characters bytes) (draft_in_hand s)) s)
after columns width (resize w) s = scrolled columns width s

abbrev pub action_of : (ℕ → Columns) → (width : ℕ) → Operation → Session → DisplayAction
action_of columns width operation.Finish s = action.Finish
action_of columns width operation.Cancel s = action.Cancel
action_of columns width (operation.Edit e) s = answer_to_edit columns (room width s) e (draft_in_hand s)
action_of columns width operation.Previous s = redraw_if (nat_lt 0 s.hand)
action_of columns width operation.Next s = redraw_if (nat_lt (s.hand + 1) (length s.drafts))
action_of columns width operation.Ignore s = action.Nothing

-- what an accepted call answers
abbrev pub answer : (ℕ → Columns) → (width : ℕ) → Request → Session → Reply
answer columns width draw s = Ok None
answer columns width (key event) s = Ok (Some (action_of columns width (operation_of event) s))
answer columns width (paste bytes) s = Ok (Some action.Redraw)
answer columns width (resize w) s = Ok None

-- what the answer to an operation asks of the glass: a letter is written alone, and a redraw draws all
abbrev pub calls_by : DisplayAction → Operation → List GlassCall → List GlassCall
calls_by action.Letter (operation.Edit (Insert c)) ks = text (c ∷ []) ∷ []
calls_by action.Redraw o ks = ks
calls_by _ o ks = []

-- what an accepted call asks of the glass
abbrev pub glass_calls : (ℕ → Columns) → (width : ℕ) → Request → Session → List GlassCall
glass_calls columns width draw s = drawn columns width s
glass_calls columns width (key event) s = calls_by (action_of columns width (operation_of event) s) (operation_of event) (drawn columns width (after columns width (key event) s))
glass_calls columns width (paste bytes) s = drawn columns width (after columns width (paste bytes) s)
glass_calls columns width (resize w) s = reshape w ∷ drawn columns width (after columns width (resize w) s)

-- One call, from a prompt p and a glass g to q and h, with its reply.
module _ {G : Type 0} (columns : ℕ → Columns) (row : G → Row) (spare : G → ℕ) where
  -- what the table says of a call
  abbrev pub refused_now : Request → Prompt → G → Option Refusal
  refused_now x p g = refusal x (length (session p).label) (width_of (row g)) (spare g) (length (draft_in_hand (session p)).line.text)

  abbrev pub drawn_at : Request → G → ℕ
  drawn_at x g = width_after x (width_of (row g))

  pub record Accepting (x : Request) (p : Prompt) (g : G) (r : Reply) (q : Prompt) (h : G) : Type 0 where
    pub answered : r ≡ answer columns (drawn_at x g) x (session p)
    pub prompt_after : session q ≡ after columns (drawn_at x g) x (session p)
    pub row_after : row h ≡ apply_all columns (glass_calls columns (drawn_at x g) x (session p)) (row g)

  pub record Refusing (e : Refusal) (p : Prompt) (g : G) (r : Reply) (q : Prompt) (h : G) : Type 0 where
    pub told_why : r ≡ Err e
    pub same_prompt : q ≡ p
    pub same_glass : h ≡ g

  pub record OneCall (x : Request) (p : Prompt) (g : G) (r : Reply) (q : Prompt) (h : G) : Type 0 where
    pub refused : (e : Refusal) → refused_now x p g ≡ Some e → Refusing e p g r q h
    pub accepted : refused_now x p g ≡ None → Accepting x p g r q h

-- what an accepted call does to the drafts is what it enters in the ledger, at whatever width
abbrev pub CallsEnterTheLedger : Type 0
CallsEnterTheLedger = (columns : ℕ → Columns) (width : ℕ) (x : Request) (s : Session) → ledger (after columns width x s) ≡ entered columns x (ledger s)
