use Rattle.std.proofs.Common.{◌+◌, ◌≤◌, length, Ok, Some, ap, ◌∙◌, subst, arith, ◌≡◌}
use Rattle.glass.proofs.DrewTied.{DrewTied, both}
use Rattle.draft.specs.declared.action.DisplayAction.{DisplayAction}
use Rattle.draft.specs.declared.action.DisplayAction.TheVariants.{Redraw}
use Rattle.draft.specs.Edits.{pasting_refused}
use Rattle.prompt.specs.Requests.{paste}
use Rattle.prompt.specs.Refused.{beside_label}
use Rattle.prompt.specs.Session.{Session, session, draft_in_hand, drawn}
use Rattle.prompt.proofs.CallTied.{plainly, drew_made, kept_by}
use Rattle.prompt.proofs.Ready.{ready_now, can_draw}
use Rattle.prompt.proofs.Table.{paste_by_text}
use Rattle.prompt.proofs.Told.{refused_with, not_refused, refused_by_glass, refused_itself, accepted}
use Rattle.prompt.proofs.state.Prompt.paste.Goals as goal

pub returns-in_err-ready : goal.returns-in_err-ready
returns-in_err-ready g c =
    let call = refused_by_glass g.G.Font.Font.columns g.G.Glass.row g.G.Glass.spare g.G.Glass.tied (paste c.args.bytes.now) c.args.self.now c.args.glass.now c.width-width.result c.width-width.ensures.value
    c.from_residual.result c.in_err-ready.field-0.0 c.from_residual.ensures.1 c.in_err-ready.ensures.refused_exactly in
    record { one_call = plainly call; drew = drew_made call; keeps = kept_by call }

pub returns-in_err-action : goal.returns-in_err-action
returns-in_err-action g c =
    let bytes = c.args.bytes.now in
    let p = c.args.self.now in
    let d = draft_in_hand (session p) in
    let e = c.in_err-action.field-0.0 in
    let own = paste_by_text bytes d ∙ refused_with (pasting_refused bytes d) Redraw e c.insert.ensures.answer_is c.in_err-action.was in
    let call = refused_itself g.G.Font.Font.columns g.G.Glass.row g.G.Glass.spare g.G.Glass.tied (paste bytes) p c.args.glass.now c.width-width.result c.width-width.ensures.value c.in_ok-ready.ensures.refused_exactly
    c.from_residual-in_err-action.result e c.insert.new.self c.from_residual-in_err-action.ensures.1 c.in_err-action.ensures.unchanged_if_refused own in
    record { one_call = plainly call; drew = drew_made call; keeps = kept_by call }

pub render-requires : goal.render-requires
render-requires g c =
    let q = c.insert.new.self in
    let h = c.args.glass.now in
    let w = c.width-width.result in
    let s = g.G.Glass.spare h in
    let t = ready_now _ w s c.in_ok-ready.ensures.refused_exactly in
    let n : length (session q).label ≡ length (session c.args.self.now).label = ap (λ (x : Session). length x.label) c.in_ok-action.ensures.after in
    let wide : length (session q).label + beside_label ≤ w = omega (arith, t.wide_enough, n) in
    record {
      inside = (wide, t.not_too_wide);
      allowed = can_draw g.G.Font.Font.columns q (g.G.Glass.row h) w s c.width-width.ensures.value wide t.not_too_wide (omega (arith, t.can_pay));
    }

pub returns : goal.returns
returns g c =
    let cols = g.G.Font.Font.columns in
    let row = g.G.Glass.row in
    let spare = g.G.Glass.spare in
    let tied = g.G.Glass.tied in
    let bytes = c.args.bytes.now in
    let p = c.args.self.now in
    let q = c.insert.new.self in
    let f = c.args.glass.now in
    let w = c.width-width.result in
    let d = draft_in_hand (session p) in
    let told = not_refused (pasting_refused bytes d) Redraw c.in_ok-action.action c.insert.ensures.answer_is c.in_ok-action.was in
    let then = c.in_ok-action.ensures.after in
    let call = accepted cols row spare tied (paste bytes) p f w c.width-width.ensures.value c.in_ok-ready.ensures.refused_exactly (Ok (Some c.in_ok-action.action)) q c.render.new.glass (paste_by_text bytes d ∙ told.0)
    (ap (λ (a : DisplayAction). Ok (Some a)) told.1) then
    (subst (λ (s : Session). DrewTied cols row spare tied (drawn cols w s) f c.render.new.glass) then (both cols row spare tied {ks = drawn cols w (session q)} c.render.ensures.drew c.render.ensures.keeps)) in
    record { one_call = plainly call; drew = drew_made call; keeps = kept_by call }
