use Rattle.history.proofs.Rewriting.{PutSoFar}
use Rattle.history.proofs.writing.put_lines.Given as goal

abbrev pub invariant-loop-line : goal.invariant-loop-line
invariant-loop-line l =
    record {
      can_next : (goal.iterator-loop-line).can_next l.line-iterator;
      is_finite : (goal.iterator-loop-line).is_finite l.line-iterator;
      put : PutSoFar l.lines l.line-iterator.lines.rest.now l.initial.out l.out l.at;
    }
