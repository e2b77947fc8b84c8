use Rattle.std.proofs.Common.{length}
use Rattle.history.proofs.Texts.{LoadedSoFar}
use Rattle.history.proofs.readable.load.Given as goal

abbrev pub invariant-loop-c : goal.invariant-loop-c
invariant-loop-c l = LoadedSoFar l.line l.rest l.loader l.text.items

abbrev pub decreases-loop-c : goal.decreases-loop-c
decreases-loop-c l = length l.rest
