use Rattle.std.proofs.Common.{◌≡◌, ◌-◌, drop}
use Rattle.history.specs.Readable.{readable_lines, last_of}
use Rattle.history.proofs.readable.last_lines.Given as goal

abbrev pub invariant-loop-skipped : goal.invariant-loop-skipped
invariant-loop-skipped l = drop (l.surplus - l._skipped) (readable_lines l.kept.lines.rest.now) ≡ last_of l.most (readable_lines l.bytes)
