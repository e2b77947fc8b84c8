use Rattle.std.proofs.Common.{length}
use Rattle.history.proofs.Texts.{CountedSoFar}
use Rattle.history.proofs.readable.is_loadable.Given as goal

abbrev pub invariant-loop-c : goal.invariant-loop-c
invariant-loop-c l = CountedSoFar l.line l.rest l.loader l.count

abbrev pub decreases-loop-c : goal.decreases-loop-c
decreases-loop-c l = length l.rest
