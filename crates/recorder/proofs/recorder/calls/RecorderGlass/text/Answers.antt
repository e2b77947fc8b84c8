use Rattle.std.proofs.Common.{sym, ◌∙◌}
use Rattle.recorder.proofs.Records.{text_record}
use Rattle.recorder.proofs.Steps.{accepted}
use Rattle.recorder.proofs.recorder.calls.RecorderGlass.text.Goals as goal

pub returns : goal.returns
returns g c =
    let s = c.args.self.now in
    let k = text_record s.line s.width c.args.characters.now (sym c.all_scalars.ensures.value ∙ c.if-not-all_scalars.false) in
    accepted s g.F.Font.columns s.width _ c.enter_text.new.self k c.in_ok-can_pay.ensures.refused_exactly c.enter_text.ensures.grown
