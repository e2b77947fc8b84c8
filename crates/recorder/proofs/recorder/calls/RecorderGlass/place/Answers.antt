use Rattle.std.proofs.Common.{arith}
use Rattle.recorder.proofs.Records.{place_record}
use Rattle.recorder.proofs.Steps.{accepted}
use Rattle.recorder.proofs.recorder.calls.RecorderGlass.place.Goals as goal

pub enter-requires-clause-call : goal.enter-requires-clause-call
enter-requires-clause-call g c =
    place_record c.args.self.now.line c.args.column c.args.self.now.width c.to_be_bytes.result c.to_be_bytes-2.result c.to_be_bytes.ensures c.to_be_bytes-2.ensures (omega arith) (omega arith) (omega arith)

pub returns : goal.returns
returns g c =
    let s = c.args.self.now in
    let k = place_record s.line c.args.column s.width c.to_be_bytes.result c.to_be_bytes-2.result c.to_be_bytes.ensures c.to_be_bytes-2.ensures (omega arith) (omega arith) (omega arith) in
    accepted s g.F.Font.columns s.width _ c.enter.new.self k c.in_ok-can_pay.ensures.refused_exactly c.enter.ensures.grown
