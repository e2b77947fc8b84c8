use Rattle.std.proofs.Common.{◌≡◌, ◌+◌, ◌≤◌, List, length, Ok, Some, sym, refl, ap, ◌∙◌, subst, arith, Err}
use Rattle.glass.specs.Calls.{GlassCall}
use Rattle.glass.proofs.DrewTied.{DrewTied, both}
use Rattle.draft.specs.declared.action.DisplayAction.{DisplayAction}
use Rattle.text.specs.declared.refusal.Refusal.TheVariants.{NotScalar}
use Rattle.prompt.specs.declared.keys.Operation.{Operation}
use Rattle.prompt.specs.Requests.{key}
use Rattle.prompt.specs.Refused.{operation_refused, beside_label}
use Rattle.prompt.specs.Session.{Session, session, draft_in_hand, drawn, after_operation, action_of, calls_by}
use Rattle.prompt.specs.Keys.{operation as operation_of}
use Rattle.prompt.proofs.CallTied.{plainly, drew_made, kept_by}
use Rattle.prompt.proofs.Ready.{sound_in_hand, ready_now, can_draw, can_show}
use Rattle.prompt.proofs.Kept.{operated_label}
use Rattle.prompt.proofs.Table.{types_scalars, key_by_operation}
use Rattle.prompt.proofs.Told.{refused_with, not_refused, refused_by_glass, refused_itself, accepted}
use Rattle.prompt.proofs.state.Prompt.key.Goals as goal

pub returns-in_err-ready : goal.returns-in_err-ready
returns-in_err-ready g c =
    let call = refused_by_glass g.G.Font.Font.columns g.G.Glass.row g.G.Glass.spare g.G.Glass.tied (key c.args.event) c.args.self.now c.args.glass.now c.width-width.result c.width-width.ensures.value
    c.from_residual.result c.in_err-ready.field-0.0 c.from_residual.ensures.1 c.in_err-ready.ensures.refused_exactly in
    record { one_call = plainly call; drew = drew_made call; keeps = kept_by call }

pub returns-then-not-carries_scalar : goal.returns-then-not-carries_scalar
returns-then-not-carries_scalar g c =
    let p = c.args.self.now in
    let none = sym c.if-not-carries_scalar.ensures.value in
    let call = refused_itself g.G.Font.Font.columns g.G.Glass.row g.G.Glass.spare g.G.Glass.tied (key c.args.event) p c.args.glass.now c.width-width.result c.width-width.ensures.value c.in_ok-ready.ensures.refused_exactly
    (Err NotScalar) NotScalar p refl refl (rw none refl) in
    record { one_call = plainly call; drew = drew_made call; keeps = kept_by call }

pub returns-in_err-action : goal.returns-in_err-action
returns-in_err-action g c =
    let cols = g.G.Font.Font.columns in
    let p = c.args.self.now in
    let d = draft_in_hand (session p) in
    let o = c.operation_of-operation.result in
    let e = c.in_err-action.field-0.0 in
    let own = key_by_operation c.args.event o d c.operation_of-operation.ensures.value (sound_in_hand p).at_most_capacity (sym c.if-not-carries_scalar.ensures.value)
    ∙ refused_with (operation_refused o d) (action_of cols c.width-width.result o (session p)) e c.dispatch_key.ensures.answer_is c.in_err-action.was in
    let call = refused_itself cols g.G.Glass.row g.G.Glass.spare g.G.Glass.tied (key c.args.event) p c.args.glass.now c.width-width.result c.width-width.ensures.value c.in_ok-ready.ensures.refused_exactly
    c.from_residual-in_err-action.result e c.dispatch_key.new.self c.from_residual-in_err-action.ensures.1 c.in_err-action.ensures.unchanged_if_refused own in
    record { one_call = plainly call; drew = drew_made call; keeps = kept_by call }

pub show-requires : goal.show-requires
show-requires g c =
    let cols = g.G.Font.Font.columns in
    let event = c.args.event in
    let p = c.args.self.now in
    let q = c.dispatch_key.new.self in
    let w = c.width-width.result in
    let r = g.G.Glass.row c.args.glass.now in
    let s = g.G.Glass.spare c.args.glass.now in
    let o = c.operation_of-operation.result in
    let t = ready_now _ w s c.in_ok-ready.ensures.refused_exactly in
    let n : length (session q).label ≡ length (session c.args.self.now).label = ap (λ (x : Session). length x.label) c.in_ok-action.ensures.after ∙ ap length (operated_label cols w o (session p)) in
    let wide : length (session q).label + beside_label ≤ w = omega (arith, t.wide_enough, n) in
    record {
      inside = (wide, t.not_too_wide);
      allowed = can_show cols c.in_ok-action.action o (drawn cols w (session q)) r s (omega (arith, t.can_pay))
          (types_scalars event o c.operation_of-operation.ensures.value (sym c.if-not-carries_scalar.ensures.value))
          (can_draw cols q r w s c.width-width.ensures.value wide t.not_too_wide (omega (arith, t.can_pay)));
    }

pub returns : goal.returns
returns g c =
    let cols = g.G.Font.Font.columns in
    let row = g.G.Glass.row in
    let spare = g.G.Glass.spare in
    let tied = g.G.Glass.tied in
    let event = c.args.event in
    let p = c.args.self.now in
    let q = c.dispatch_key.new.self in
    let f = c.args.glass.now in
    let h = c.show.new.glass in
    let w = c.width-width.result in
    let o = c.operation_of-operation.result in
    let d = draft_in_hand (session p) in
    let a = c.in_ok-action.action in
    let is = c.operation_of-operation.ensures.value in
    let told = not_refused (operation_refused o d) (action_of cols w o (session p)) a c.dispatch_key.ensures.answer_is c.in_ok-action.was in
    let own = key_by_operation event o d is (sound_in_hand p).at_most_capacity (sym c.if-not-carries_scalar.ensures.value) ∙ told.0 in
    let action : a ≡ action_of cols w (operation_of event) (session p) = told.1 ∙ ap (λ (x : Operation). action_of cols w x (session p)) is in
    let then : session q ≡ after_operation cols w (operation_of event) (session p) = c.in_ok-action.ensures.after ∙ ap (λ (x : Operation). after_operation cols w x (session p)) is in
    let calls = ap (λ (x : Operation). calls_by a x (drawn cols w (session q))) is
    ∙ ap (λ (x : Session). calls_by a (operation_of event) (drawn cols w x)) then
    ∙ ap (λ (x : DisplayAction). calls_by x (operation_of event) (drawn cols w (after_operation cols w (operation_of event) (session p)))) action in
    let call = accepted cols row spare tied (key event) p f w c.width-width.ensures.value c.in_ok-ready.ensures.refused_exactly (Ok (Some a)) q h own
    (ap (λ (x : DisplayAction). Ok (Some x)) action) then
    (subst (λ (ks : List GlassCall). DrewTied cols row spare tied ks f h) calls (both cols row spare tied {ks = calls_by a o (drawn cols w (session q))} c.show.ensures.drew c.show.ensures.keeps)) in
    record { one_call = plainly call; drew = drew_made call; keeps = kept_by call }
