use Rattle.recorder.proofs.Records.{pen_record}
use Rattle.recorder.proofs.Steps.{accepted}
use Rattle.recorder.proofs.recorder.calls.RecorderGlass.pen.Goals as goal

pub enter-requires-clause-call : goal.enter-requires-clause-call
enter-requires-clause-call g c = pen_record c.args.self.now.line c.args.self.now.width c.args.change c.pen_code.result c.pen_code.ensures

pub returns : goal.returns
returns g c =
    let s = c.args.self.now in
    let k = pen_record s.line s.width c.args.change c.pen_code.result c.pen_code.ensures in
    accepted s g.F.Font.columns s.width _ c.enter.new.self k c.in_ok-can_pay.ensures.refused_exactly c.enter.ensures.grown
