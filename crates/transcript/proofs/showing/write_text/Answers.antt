use Rattle.std.proofs.Common.{rules}
use Rattle.transcript.proofs.Written.{one_more}
use Rattle.transcript.specs.Showing.{char_text}
use Rattle.transcript.proofs.showing.write_text.Goals as goal

pub loop-code-preserved : goal.loop-code-preserved
loop-code-preserved g c = λ plain.
    one_more _ char_text c.args.text.now c.loop-code.code-index 0 _ _ _ c.loop-code-test.true (c.loop-code.invariant plain) (search rules)
