-- What is told of a call, whichever it is, from the test of its glass on.
use Rattle.std.proofs.Common.{◌≡◌, ℕ, ◌++◌, length, Some, None, Ok, Err, IsErrAnd, Option, Result, sym, refl, ap, ◌∙◌, subst}
use Rattle.text.specs.declared.refusal.Refusal.{Refusal}
use Rattle.font.specs.declared.Columns.{Columns}
use Rattle.glass.specs.Row.{Row}
use Rattle.glass.specs.Ties.{Tied}
use Rattle.glass.proofs.DrewTied.{DrewTied}
use Rattle.draft.specs.declared.action.DisplayAction.{DisplayAction}
use Rattle.draft.specs.Edits.{unless_refused}
use Rattle.prompt.specs.declared.state.Prompt.{Prompt}
use Rattle.prompt.specs.Requests.{Request, Reply, answered_by}
use Rattle.prompt.specs.Refused.{first_of, glass_reasons, own_reasons}
use Rattle.prompt.specs.Session.{session, draft_in_hand, answer, after, glass_calls, refused_now, drawn_at}
use Rattle.prompt.proofs.CallTied.{OneCallTied}
use Rattle.prompt.proofs.Ready.{refuses, accepts}
use Rattle.prompt.proofs.Table.{early, late}

-- an answer that is refused, or not
pub refused_with : {A : Type 0} (o : Option Refusal) (a : A) {r : Result A Refusal} (e : Refusal) → r ≡ unless_refused o a → r ≡ Err e → o ≡ Some e
refused_with None a e h k = absurd cc
refused_with (Some d) a e h k = let same : d ≡ e = cc in ap Some same

pub not_refused : {A : Type 0} (o : Option Refusal) (a : A) {r : Result A Refusal} (b : A) → r ≡ unless_refused o a → r ≡ Ok b → (o ≡ None) × (b ≡ a)
not_refused None a b h k = let same : b ≡ a = cc in (refl, same)
not_refused (Some d) a b h k = absurd cc

module _ {G : Type 0} (columns : ℕ → Columns) (row : G → Row) (spare : G → ℕ) (tied : G → Tied) (x : Request) (p : Prompt) (g : G) where
  -- a refusal that a `?` hands on
  pub handed_on : (r : Result DisplayAction Refusal) (e : Refusal) (q : Prompt) → IsErrAnd r (λ d. d ≡ e) → q ≡ p → refused_now columns row spare x p g ≡ Some e → OneCallTied columns row spare tied x p g (answered_by r) q g
  handed_on (Ok a) e q back same why = absurd back
  handed_on (Err d) e q back same why =
      subst (λ (z : Prompt). OneCallTied columns row spare tied x p g (Err d) z g) (sym same)
      (refuses columns row spare tied x p g d (why ∙ ap Some (sym back)))

  -- the width is the one that the call draws at
  module _ (w : ℕ) (wide : w ≡ drawn_at columns row spare x g) where
    pub refused_by_glass : (r : Result DisplayAction Refusal) (e : Refusal) → IsErrAnd r (λ d. d ≡ e) → Some e ≡ first_of (glass_reasons (length (session p).label) w (spare g)) → OneCallTied columns row spare tied x p g (answered_by r) p g
    refused_by_glass r e back h =
        let n = length (session p).label in
        let own = own_reasons x (length (draft_in_hand (session p)).line.text) in
        handed_on r e p back refl (subst (λ (v : ℕ). first_of (glass_reasons n v (spare g) ++ own) ≡ Some e) wide (early n w (spare g) own e h))

    -- from here on a call is refused for its own reasons
    module _ (taken : None ≡ first_of (glass_reasons (length (session p).label) w (spare g))) where
      by_its_own : (o : Option Refusal) → first_of (own_reasons x (length (draft_in_hand (session p)).line.text)) ≡ o → refused_now columns row spare x p g ≡ o
      by_its_own o h =
          let n = length (session p).label in
          let own = own_reasons x (length (draft_in_hand (session p)).line.text) in
          subst (λ (v : ℕ). first_of (glass_reasons n v (spare g) ++ own) ≡ o) wide (late n w (spare g) own taken ∙ h)

      pub refused_itself : (r : Result DisplayAction Refusal) (e : Refusal) (q : Prompt) → IsErrAnd r (λ d. d ≡ e) → q ≡ p → first_of (own_reasons x (length (draft_in_hand (session p)).line.text)) ≡ Some e
          → OneCallTied columns row spare tied x p g (answered_by r) q g
      refused_itself r e q back same own = handed_on r e q back same (by_its_own (Some e) own)

      pub accepted : (r : Reply) (q : Prompt) (h : G) → first_of (own_reasons x (length (draft_in_hand (session p)).line.text)) ≡ None
          → r ≡ answer columns w x (session p) → session q ≡ after columns w x (session p) → DrewTied columns row spare tied (glass_calls columns w x (session p)) g h
          → OneCallTied columns row spare tied x p g r q h
      accepted r q h own answered then drew =
          accepts columns row spare tied x p q g h r (by_its_own None own) (record {
            answered = answered ∙ ap (λ (v : ℕ). answer columns v x (session p)) wide;
            prompt_after = then ∙ ap (λ (v : ℕ). after columns v x (session p)) wide;
            drew = subst (λ (v : ℕ). DrewTied columns row spare tied (glass_calls columns v x (session p)) g h) wide drew;
          })
