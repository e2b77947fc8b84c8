use Rattle.std.proofs.Common.{◌≡◌, ◌+◌, length}
use Rattle.history.specs.Readable.{readable_lines}
use Rattle.history.specs.Writing.{ended_lines}
use Rattle.history.proofs.writing.ended_length.Given as goal

abbrev pub invariant-loop-line : goal.invariant-loop-line
invariant-loop-line l =
    record {
      can_next : (goal.iterator-loop-line).can_next l.line-iterator;
      is_finite : (goal.iterator-loop-line).is_finite l.line-iterator;
      counted : l.total + length (ended_lines (readable_lines l.line-iterator.lines.rest.now)) ≡ length (ended_lines (readable_lines l.lines));
    }
