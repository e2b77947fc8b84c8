-- A key that asks nothing of the glass leaves the prompt as it was.
use Rattle.std.proofs.Common.{◌≡◌, ℕ, ◌+◌, ◌-◌, ◌≤◌, min, max, Bool, true, false, cond, not, eqb, ltb, List, length, sym, refl, ap, ◌∙◌, arith, take-append-drop, ltb-false, eqb-true}
use Rattle.std.proofs.lemmas.List.{set-get_or}
use Rattle.font.specs.declared.Columns.{Columns}
use Rattle.draft.specs.Line.{Line, line, without, removed_to, moved_to, can_swap, prev_word, next_word, left_of, right_of}
use Rattle.draft.specs.Draft.{Draft, draft}
use Rattle.draft.specs.Scroll.{WellScrolled}
use Rattle.draft.proofs.Clamp.{clamp_keeps_well_scrolled}
use Rattle.draft.specs.declared.action.DisplayAction.{DisplayAction}
use Rattle.draft.specs.declared.action.DisplayAction.TheVariants as action
use Rattle.prompt.specs.declared.keys.Operation.{Operation}
use Rattle.prompt.specs.declared.keys.Operation.TheVariants as operation
use Rattle.prompt.specs.declared.keys.Edit.{Edit}
use Rattle.prompt.specs.declared.keys.Edit.TheVariants.{Insert, Remove, Move, Transpose}
use Rattle.prompt.specs.declared.keys.Motion.{Motion}
use Rattle.prompt.specs.declared.keys.Motion.TheVariants as motion
use Rattle.draft.specs.Edits.{with_line, clamping, redraw_if, answer_by, goes_out_alone}
use Rattle.prompt.specs.Edits.{edited, removes_to, goes_to, answer_to_motion, answer_to_edit}
use Rattle.prompt.specs.Session.{Session, empty_draft, draft_in_hand, room, with_hand, with_draft, scrolled, operated, after_operation, action_of}
use Rattle.std.proofs.lemmas.Bool.{not-false as flipped_back}

-- an answer after which nothing is drawn
abbrev pub silent : DisplayAction → Bool
silent action.Nothing = true
silent action.Finish = true
silent action.Cancel = true
silent action.Letter = false
silent action.Redraw = false

silent_only : (b : Bool) → silent (redraw_if b) ≡ true → b ≡ false
silent_only true e = sym e
silent_only false e = refl

no_reach : (reach : Line → ℕ) (d : Draft) → silent (answer_by reach d) ≡ true → reach d.line ≡ d.line.place
no_reach reach d e = eqb-true _ _ (flipped_back _ (silent_only (not (eqb (reach d.line) d.line.place)) e))

removed_none : (l : Line) (r : ℕ) → r ≡ l.place → removed_to r l ≡ l
removed_none l r e =
    let a : min l.place r ≡ l.place = omega arith in
    let b : max l.place r ≡ l.place = omega arith in
    ap (λ (k : ℕ). without k (max l.place r) l) a ∙ ap (λ (k : ℕ). without l.place k l) b
    ∙ ap (λ (t : List ℕ). line t l.place) (take-append-drop l.place l.text)

moved_none : (l : Line) (r : ℕ) → r ≡ l.place → moved_to r l ≡ l
moved_none l r e = ap (λ (k : ℕ). line l.text k) e

-- a line that stays leaves the draft as it was
same_line : (l : Line) (d : Draft) → d.offset ≤ d.line.place → l ≡ d.line → with_line l d ≡ d
same_line l d inside e =
    ap (λ (x : Line). with_line x d) e ∙ ap (draft d.line) (let m : min d.offset d.line.place ≡ d.offset = omega arith in m)

-- the draft in hand put back in its place
put_back : (d : Draft) (s : Session) → d ≡ draft_in_hand s → with_draft d s ≡ s
put_back d s e =
    ap (λ (x : Draft). with_draft x s) e
    ∙ ap (λ (ds : List Draft). record { label = s.label; drafts = ds; hand = s.hand }) (set-get_or s.drafts s.hand empty_draft)

abbrev pub Well : (ℕ → Columns) → Session → ℕ → Type 0
Well columns s w = WellScrolled columns (room w s) (draft_in_hand s).line (draft_in_hand s).offset

pub scrolled_same : (columns : ℕ → Columns) (w : ℕ) (s : Session) → Well columns s w → scrolled columns w s ≡ s
scrolled_same columns w s h =
    put_back (clamping columns (room w s) (draft_in_hand s)) s
    (ap (draft (draft_in_hand s).line) (clamp_keeps_well_scrolled columns (room w s) (draft_in_hand s).line (draft_in_hand s).offset h))

module _ (columns : ℕ → Columns) (w : ℕ) (s : Session) (well : Well columns s w) where
  idle : (t : Session) → t ≡ s → scrolled columns w t ≡ s
  idle t e = ap (scrolled columns w) e ∙ scrolled_same columns w s well

  same_draft : (l : Line) → l ≡ (draft_in_hand s).line → with_draft (with_line l (draft_in_hand s)) s ≡ s
  same_draft l e = put_back _ s (same_line l (draft_in_hand s) well.offset_up_to_place e)

  removes_none : (reach : Line → ℕ) → silent (answer_by reach (draft_in_hand s)) ≡ true → removed_to (reach (draft_in_hand s).line) (draft_in_hand s).line ≡ (draft_in_hand s).line
  removes_none reach e = removed_none (draft_in_hand s).line _ (no_reach reach (draft_in_hand s) e)

  moves_none : (reach : Line → ℕ) → silent (answer_by reach (draft_in_hand s)) ≡ true → moved_to (reach (draft_in_hand s).line) (draft_in_hand s).line ≡ (draft_in_hand s).line
  moves_none reach e = moved_none (draft_in_hand s).line _ (no_reach reach (draft_in_hand s) e)

  swaps_none : (b : Bool) (x : Line) → silent (redraw_if b) ≡ true → cond b x (draft_in_hand s).line ≡ (draft_in_hand s).line
  swaps_none true x e = absurd cc
  swaps_none false x e = refl

  stays_last : (b : Bool) (n : ℕ) → silent (redraw_if b) ≡ true → cond b n s.hand ≡ s.hand
  stays_last true n e = absurd cc
  stays_last false n e = refl

  loud : (b : Bool) → silent (cond b action.Letter action.Redraw) ≡ true → ⊥
  loud true e = cc
  loud false e = cc

  unmoved_by : (m : Motion) → silent (answer_to_motion columns m (draft_in_hand s)) ≡ true → moved_to (goes_to columns m (draft_in_hand s).line) (draft_in_hand s).line ≡ (draft_in_hand s).line
  unmoved_by motion.Left e = moves_none (left_of columns) e
  unmoved_by motion.Right e = moves_none (right_of columns) e
  unmoved_by motion.PrevWord e = moves_none prev_word e
  unmoved_by motion.NextWord e = moves_none next_word e
  unmoved_by motion.Start e = absurd cc
  unmoved_by motion.End e = absurd cc

  unedited : (x : Edit) → silent (answer_to_edit columns (room w s) x (draft_in_hand s)) ≡ true → edited columns x (draft_in_hand s).line ≡ (draft_in_hand s).line
  unedited (Insert c) e = absurd (loud (goes_out_alone columns (room w s) c (draft_in_hand s)) e)
  unedited (Remove r) e = removes_none (removes_to r) e
  unedited (Move m) e = unmoved_by m e
  unedited Transpose e = swaps_none (can_swap (draft_in_hand s).line) _ e

  pub unmoved : (o : Operation) → silent (action_of columns w o s) ≡ true → after_operation columns w o s ≡ s
  unmoved operation.Finish e = refl
  unmoved operation.Cancel e = refl
  unmoved operation.Ignore e = refl
  unmoved (operation.Edit x) e = idle (operated columns (operation.Edit x) s) (same_draft _ (unedited x e))
  unmoved operation.Previous e =
      let h = ltb-false _ _ (silent_only (ltb 0 s.hand) e) in
      idle (operated columns operation.Previous s) (ap (λ (k : ℕ). with_hand k s) (let z : s.hand - 1 ≡ s.hand = omega arith in z))
  unmoved operation.Next e = idle (operated columns operation.Next s) (ap (λ (k : ℕ). with_hand k s) (stays_last (ltb (s.hand + 1) (length s.drafts)) _ e))
