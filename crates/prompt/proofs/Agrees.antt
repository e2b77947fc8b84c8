-- What a call does to the drafts is what it enters in the ledger.
use Rattle.std.proofs.Common.{◌≡◌, ℕ, List, sym, refl, ap, ◌∙◌}
use lib.ListN.{length-map, get_or-map}
use lib.Seq.{map-set, map-set_same}
use Rattle.font.specs.declared.Columns.{Columns}
use Rattle.draft.specs.Line.{Line, empty_line, with_inserted}
use Rattle.draft.specs.Draft.{Draft, draft}
use Rattle.text.specs.Utf8.{characters}
use Rattle.prompt.specs.declared.keys.Operation.{Operation}
use Rattle.prompt.specs.declared.keys.Operation.TheVariants.{Finish, Cancel, Edit, Previous, Next, Ignore}
use Rattle.prompt.specs.Keys.{operation}
use Rattle.draft.specs.Edits.{inserting}
use Rattle.prompt.specs.Edits.{edited, editing}
use Rattle.prompt.specs.Requests.{Request, draw, key, paste, resize}
use Rattle.prompt.specs.Ledger as book
use Rattle.prompt.specs.Ledger.{Ledger, line_in_hand, entered, hand_on}
use Rattle.prompt.specs.Session.{Session, draft_in_hand, ledger, scrolled, operated, after, after_operation, with_draft}

abbrev lined : List Line → ℕ → Ledger
lined ls h = record { lines = ls; hand = h }

pub in_hand_agrees : (s : Session) → line_in_hand (ledger s) ≡ (draft_in_hand s).line
in_hand_agrees s = get_or-map (λ (d : Draft). d.line) s.drafts s.hand (draft empty_line 0)

-- scrolling is not in the ledger
pub scrolled_agrees : (columns : ℕ → Columns) (w : ℕ) (s : Session) → ledger (scrolled columns w s) ≡ ledger s
scrolled_agrees columns w s =
    ap (λ (ls : List Line). lined ls s.hand) (map-set_same (λ (d : Draft). d.line) s.drafts s.hand _ (draft empty_line 0) refl)

-- a draft in hand with another line is that line in the ledger, whatever its offset
pub with_draft_agrees : (d : Draft) (s : Session) → ledger (with_draft d s) ≡ book.with_line d.line (ledger s)
with_draft_agrees d s = ap (λ (ls : List Line). lined ls s.hand) (map-set (λ (d : Draft). d.line) s.drafts s.hand d)

operated_agrees : (columns : ℕ → Columns) (o : Operation) (s : Session) → ledger (operated columns o s) ≡ book.after_operation columns o (ledger s)
operated_agrees columns Finish s = refl
operated_agrees columns Cancel s = refl
operated_agrees columns (Edit e) s =
    with_draft_agrees (editing columns e (draft_in_hand s)) s
    ∙ ap (λ (l : Line). book.with_line (edited columns e l) (ledger s)) (sym (in_hand_agrees s))
operated_agrees columns Previous s = refl
operated_agrees columns Next s = ap (λ (n : ℕ). lined (ledger s).lines (hand_on n s.hand)) (sym (length-map s.drafts (λ (d : Draft). d.line)))
operated_agrees columns Ignore s = refl

scrolled_after : (columns : ℕ → Columns) (w : ℕ) (o : Operation) (s : Session) → ledger (scrolled columns w (operated columns o s)) ≡ book.after_operation columns o (ledger s)
scrolled_after columns w o s = scrolled_agrees columns w (operated columns o s) ∙ operated_agrees columns o s

operation_agrees : (columns : ℕ → Columns) (w : ℕ) (o : Operation) (s : Session) → ledger (after_operation columns w o s) ≡ book.after_operation columns o (ledger s)
operation_agrees columns w Finish s = refl
operation_agrees columns w Cancel s = refl
operation_agrees columns w (Edit e) s = scrolled_after columns w (Edit e) s
operation_agrees columns w Previous s = scrolled_after columns w Previous s
operation_agrees columns w Next s = scrolled_after columns w Next s
operation_agrees columns w Ignore s = refl

pub ledger_agrees : (columns : ℕ → Columns) (w : ℕ) (x : Request) (s : Session) → ledger (after columns w x s) ≡ entered columns x (ledger s)
ledger_agrees columns w draw s = refl
ledger_agrees columns w (key event) s = operation_agrees columns w (operation event) s
ledger_agrees columns w (paste bytes) s =
    scrolled_agrees columns w (with_draft (inserting (characters bytes) (draft_in_hand s)) s)
    ∙ with_draft_agrees (inserting (characters bytes) (draft_in_hand s)) s
    ∙ ap (λ (l : Line). book.with_line (with_inserted (characters bytes) l) (ledger s)) (sym (in_hand_agrees s))
ledger_agrees columns w (resize v) s = scrolled_agrees columns w s
