use Rattle.history.specs.Readable.{readable_lines}
use Rattle.history.proofs.Remembering.{RememberedSoFar}
use Rattle.history.proofs.store.open.remember.Given as goal

abbrev pub invariant-loop-line : goal.invariant-loop-line
invariant-loop-line l =
    record {
      can_next : (goal.iterator-loop-line).can_next l.line-iterator;
      is_finite : (goal.iterator-loop-line).is_finite l.line-iterator;
      made : RememberedSoFar l.history l.drafts.items (readable_lines l.line-iterator.lines.rest.now);
    }
