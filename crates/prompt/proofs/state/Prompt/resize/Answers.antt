use Rattle.std.proofs.Common.{◌≡◌, ◌+◌, ◌≤◌, [], ◌∷◌, length, None, Ok, sym, refl, ap, ◌∙◌, subst, arith}
use lib.ListN.{length-replicate}
use Rattle.glass.specs.Row.{width_of, blank_cell}
use Rattle.glass.specs.Calls.{reshape}
use Rattle.glass.proofs.DrewTied.{DrewTied, both, drew_then}
use Rattle.prompt.specs.Requests.{resize}
use Rattle.prompt.specs.Refused.{beside_label}
use Rattle.prompt.specs.Session.{Session, session, drawn}
use Rattle.prompt.proofs.CallTied.{plainly, drew_made, kept_by}
use Rattle.prompt.proofs.Ready.{ready_now, can_draw, accepts}
use Rattle.prompt.proofs.state.Prompt.resize.Goals as goal

pub render-requires : goal.render-requires
render-requires g c =
    let q = c.scroll.new.self in
    let w = c.args.width in
    let s = g.G.Glass.spare c.args.glass.now in
    let h = c.perform.new.glass in
    let t = ready_now _ w s c.in_ok-ready.ensures.refused_exactly in
    let v : w ≡ width_of (g.G.Glass.row h) = sym (ap width_of c.perform.ensures.drew.row_after ∙ length-replicate w blank_cell) in
    let n : length (session q).label ≡ length (session c.args.self.now).label = ap (λ (x : Session). length x.label) c.scroll.ensures.after in
    let wide : length (session q).label + beside_label ≤ w = omega (arith, t.wide_enough, n) in
    record {
      inside = (wide, t.not_too_wide);
      allowed = can_draw g.G.Font.Font.columns q (g.G.Glass.row h) w (g.G.Glass.spare h) v wide t.not_too_wide (omega (arith, t.can_pay, c.perform.ensures.drew.paid));
    }

pub returns : goal.returns
returns g c =
    let cols = g.G.Font.Font.columns in
    let row = g.G.Glass.row in
    let spare = g.G.Glass.spare in
    let tied = g.G.Glass.tied in
    let p = c.args.self.now in
    let q = c.scroll.new.self in
    let w = c.args.width in
    let f = c.args.glass.now in
    let h = c.render.new.glass in
    let then = drew_then cols row spare tied (reshape w ∷ []) (drawn cols w (session q)) f c.perform.new.glass h (both cols row spare tied {ks = reshape w ∷ []} c.perform.ensures.drew c.perform.ensures.keeps) (both cols row spare tied {ks = drawn cols w (session q)} c.render.ensures.drew c.render.ensures.keeps) in
    let call = accepts cols row spare tied (resize w) p q f h (Ok None) (sym c.in_ok-ready.ensures.refused_exactly) (record {
      answered = refl;
      prompt_after = c.scroll.ensures.after;
      drew = subst (λ (s : Session). DrewTied cols row spare tied (reshape w ∷ drawn cols w s) f h) c.scroll.ensures.after then;
    }) in
    record { one_call = plainly call; drew = drew_made call; keeps = kept_by call }
