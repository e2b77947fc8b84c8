use Rattle.recorder.proofs.Records.{clear_record}
use Rattle.recorder.proofs.Steps.{accepted}
use Rattle.recorder.proofs.recorder.calls.RecorderGlass.clear.Goals as goal

pub returns : goal.returns
returns g c =
    let s = c.args.self.now in
    accepted s g.F.Font.columns s.width _ c.enter.new.self (clear_record s.line s.width) c.in_ok-can_pay.ensures.refused_exactly c.enter.ensures.grown
