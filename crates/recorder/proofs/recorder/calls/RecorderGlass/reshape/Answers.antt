use Rattle.std.proofs.Common.{◌≤◌, arith}
use Rattle.std.proofs.lemmas.Grind.{common_steps}
use Rattle.glass.specs.Row.{widest}
use Rattle.recorder.proofs.Records.{reshape_record}
use Rattle.recorder.proofs.Steps.{accepted}
use Rattle.recorder.proofs.recorder.calls.RecorderGlass.reshape.Goals as goal

pub enter-requires-clause-call : goal.enter-requires-clause-call
enter-requires-clause-call g c =
    let low : 1 ≤ c.args.width = grind (arith, common_steps) in
    let high : c.args.width ≤ widest = grind (arith, common_steps) in
    reshape_record c.args.self.now.line c.args.self.now.width c.args.width c.to_be_bytes.result c.to_be_bytes.ensures low high

pub returns : goal.returns
returns g c =
    let s = c.args.self.now in
    let low : 1 ≤ c.args.width = grind (arith, common_steps) in
    let high : c.args.width ≤ widest = grind (arith, common_steps) in
    let k = reshape_record s.line s.width c.args.width c.to_be_bytes.result c.to_be_bytes.ensures low high in
    accepted s g.F.Font.columns c.args.width _ c.enter.new.self k c.in_ok-can_pay.ensures.refused_exactly c.enter.ensures.grown
