use Rattle.std.proofs.Common.{◌≡◌, length}
use Rattle.history.specs.Lines.{lines}
use Rattle.history.proofs.lines.LinesIterator.next.Given as goal

abbrev pub invariant-loop-line : goal.invariant-loop-line
invariant-loop-line l = lines l.self.rest.now ≡ lines l.initial.self.rest.now

abbrev pub decreases-loop-line : goal.decreases-loop-line
decreases-loop-line l = length l.self.rest.now
