use Rattle.std.proofs.Common.{arith}
use Rattle.prompt.proofs.Ready.{ready_now, can_draw}
use Rattle.prompt.proofs.state.Prompt.draw.Goals as goal

pub render-requires-clause-allowed : goal.render-requires-clause-allowed
render-requires-clause-allowed g c =
    let w = c.width-width.result in
    let s = g.G.Glass.spare c.args.glass.now in
    let t = ready_now _ w s c.in_ok-ready.ensures.refused_exactly in
    can_draw g.G.Font.Font.columns c.args.self.now (g.G.Glass.row c.args.glass.now) w s c.width-width.ensures.value t.wide_enough t.not_too_wide (omega (arith, t.can_pay))
