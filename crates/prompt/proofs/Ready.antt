-- Where no call is refused, a drawing can be paid for.
use Rattle.std.proofs.Common.{Bool, false, cond, Option, ◌≡◌, ℕ, zero, suc, ◌+◌, ◌-◌, ◌≤◌, min, true, ◌||◌, ltb, List, [], ◌∷◌, ◌++◌, length, get_or, Some, None, Err, sym, refl, ap, ◌∙◌, subst, arith, ltb-false}
use Rattle.std.specs.List.{AllByRecursion}
use Rattle.std.proofs.lemmas.Bool.{le-ltb, or_parts as neither}
use lib.Utf8.{scalar}
use Rattle.text.specs.declared.refusal.Refusal.{Refusal}
use Rattle.text.specs.declared.refusal.Refusal.TheVariants.{OutsideGlass, LowSpare}
use Rattle.font.specs.declared.Columns.{Columns}
use Rattle.glass.specs.Row.{Row, width_of}
use Rattle.glass.specs.Calls.{GlassCall, Allowed}
use Rattle.glass.specs.Ties.{Tied}
use Rattle.draft.specs.declared.action.DisplayAction.{DisplayAction}
use Rattle.draft.specs.declared.action.DisplayAction.TheVariants as action
use Rattle.draft.specs.Draft.{Draft, shown_text, Sound}
use Rattle.draft.specs.Scroll.{shown_columns}
use Rattle.history.proofs.InHand.{sessions_are_sound}
use Rattle.drawing.specs.Drawing.{framed, cursor_column, drawing}
use Rattle.drawing.proofs.Allowed.{drawing_is_allowed}
use Rattle.prompt.specs.declared.keys.Edit.TheVariants.{Insert}
use Rattle.prompt.specs.declared.keys.Operation.{Operation}
use Rattle.prompt.specs.declared.keys.Operation.TheVariants as operation
use Rattle.prompt.specs.declared.state.Prompt.{Prompt}
use Rattle.prompt.specs.Keys.{typing}
use Rattle.prompt.specs.Requests.{Request, Reply}
use Rattle.prompt.specs.Refused.{Reason, first_of, glass_reasons}
use Rattle.prompt.specs.Session.{session, empty_draft, draft_in_hand, drawn, calls_by, refused_now}
use Rattle.prompt.proofs.CallTied.{AcceptingTied, OneCallTied}

-- no refusal: the first reason is not there, and no later one is
pub absent : (b : Bool) (e : Refusal) (o : Option Refusal) → cond b (Some e) o ≡ None → (b ≡ false) × (o ≡ None)
absent true e o h = cc
absent false e o h = (refl, h)

pub record Ready (n w s : ℕ) : Type 0 where
  pub wide_enough : n + 9 ≤ w
  pub not_too_wide : w ≤ 512
  pub can_pay : 1300 ≤ s

-- a call whose glass is not refused, whatever is asked besides
pub ready : (n w s : ℕ) (rest : List Reason) → first_of (glass_reasons n w s ++ rest) ≡ None → Ready n w s
ready n w s rest e =
    let a = absent (ltb w (n + 9) || ltb 512 w) OutsideGlass _ e in
    let b = neither (ltb w (n + 9)) (ltb 512 w) a.0 in
    let d = absent (ltb s 1300) LowSpare _ a.1 in
    record { wide_enough = ltb-false _ _ b.0; not_too_wide = ltb-false _ _ b.1; can_pay = ltb-false _ _ d.0 }

-- where its test was passed
pub ready_now : (n w s : ℕ) → None ≡ first_of (glass_reasons n w s) → Ready n w s
ready_now n w s e = ready n w s [] (sym e)

sound_at : (ds : List Draft) → AllByRecursion Sound ds → (i : ℕ) → Sound (get_or ds i empty_draft)
sound_at [] h i = record { offset_up_to_place = omega arith; place_up_to_end = omega arith; at_most_capacity = omega arith; scalar_values = refl }
sound_at (d ∷ ds) h zero = h.0
sound_at (d ∷ ds) h (suc i) = sound_at ds h.1 i

pub sound_in_hand : (p : Prompt) → Sound (draft_in_hand (session p))
sound_in_hand p = sound_at (session p).drafts (sessions_are_sound p.history).drafts_are_sound (session p).hand

pub can_draw : (columns : ℕ → Columns) (p : Prompt) (r : Row) (w s : ℕ) → w ≡ width_of r → length (session p).label + 9 ≤ w → w ≤ 512 → 1298 ≤ s → Allowed columns (drawn columns w (session p)) r s
can_draw columns p r w s q wide narrow pay =
    let sound = sound_in_hand p in
    subst (λ (v : ℕ). Allowed columns (drawn columns v (session p)) r s) (sym q)
    (drawing_is_allowed columns (session p).label (draft_in_hand (session p)) r s p.titled.2 p.titled.1 (omega arith) (omega arith) sound.at_most_capacity sound.scalar_values pay)

-- what a key left can be shown: a letter where it is a character, and a drawing
pub can_show : (columns : ℕ → Columns) (a : DisplayAction) (o : Operation) (ks : List GlassCall) (r : Row) (s : ℕ) → 2 ≤ s → ((c : ℕ) → o ≡ typing c → scalar c ≡ true)
    → Allowed columns ks r s → Allowed columns (calls_by a o ks) r s
can_show columns action.Letter (operation.Edit (Insert c)) ks r s pay good can =
    let low = le-ltb s 2 pay in (rw (low, good c refl) refl, λ left h. tt)
can_show columns action.Redraw o ks r s pay good can = can
can_show columns _ o ks r s pay good can = tt

-- one call, refused or accepted
module _ {G : Type 0} (columns : ℕ → Columns) (row : G → Row) (spare : G → ℕ) (tied : G → Tied) where
  pub refuses : (x : Request) (p : Prompt) (g : G) (e : Refusal) → refused_now columns row spare x p g ≡ Some e → OneCallTied columns row spare tied x p g (Err e) p g
  refuses x p g e h = record {
    refused = λ d k. let same : e ≡ d = cc in record { told_why = ap Err same; same_prompt = refl; same_glass = refl };
    accepted = λ k. absurd cc;
  }

  pub accepts : (x : Request) (p q : Prompt) (g h : G) (r : Reply) → refused_now columns row spare x p g ≡ None → AcceptingTied columns row spare tied x p g r q h → OneCallTied columns row spare tied x p g r q h
  accepts x p q g h r e a = record {
    refused = λ d k. absurd cc;
    accepted = λ k. a;
  }

-- the draft in hand, as it was asked for
pub prompt_framed : (columns : ℕ → Columns) (p : Prompt) (w : ℕ) (d : Draft) (label chars : List ℕ) (n k : ℕ)
    → label ≡ (session p).label → d ≡ draft_in_hand (session p) → chars ≡ shown_text d → n ≡ shown_columns columns d.line d.offset → k ≡ min (length (session p).label + 4 + n) (w - 1)
    → framed columns label chars k w ≡ drawn columns w (session p)
prompt_framed columns p w d label chars n k titled same e f h =
    let at : k ≡ min (cursor_column columns (session p).label d) (w - 1) = omega arith in
    ap (λ (cs : List ℕ). framed columns cs chars k w) titled
    ∙ ap (λ (cs : List ℕ). framed columns (session p).label cs k w) e
    ∙ ap (λ (j : ℕ). framed columns (session p).label (shown_text d) j w) at
    ∙ ap (λ (y : Draft). drawing columns (session p).label y w) same
