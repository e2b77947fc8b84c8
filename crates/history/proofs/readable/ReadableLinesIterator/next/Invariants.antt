use Rattle.std.proofs.Common.{◌≡◌, length}
use Rattle.history.specs.Lines.{lines}
use Rattle.history.specs.Readable.{readable_lines}
use Rattle.history.proofs.readable.ReadableLinesIterator.next.Given as goal

abbrev pub invariant-loop-line : goal.invariant-loop-line
invariant-loop-line l = readable_lines l.self.lines.rest.now ≡ readable_lines l.initial.self.lines.rest.now

abbrev pub decreases-loop-line : goal.decreases-loop-line
decreases-loop-line l = length (lines l.self.lines.rest.now)
