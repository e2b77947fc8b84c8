use Rattle.std.proofs.Common.{rules}
use Rattle.transcript.proofs.Written.{one_more}
use Rattle.transcript.specs.Showing.{readable}
use Rattle.transcript.proofs.showing.ReadableDisplay.fmt.Goals as goal
use Rattle.transcript.proofs.showing.ReadableDisplay.fmt.Goals.{then-has_label+in_ok-write_text, else-has_label+in_ok-write_code}

pub loop-code-preserved : goal.loop-code-preserved
loop-code-preserved g c = λ plain.
    one_more _ (readable g.F.Font.columns) c.args.self.now.text.now c.loop-code.code-index 0 _ _ _ c.loop-code-test.true (c.loop-code.invariant plain) (elim c.if-has_label.branch [ then-has_label+in_ok-write_text w ↦ search rules | else-has_label+in_ok-write_code w ↦ search rules ])
