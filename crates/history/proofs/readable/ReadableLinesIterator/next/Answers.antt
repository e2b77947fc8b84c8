use Rattle.std.proofs.Common.{sym, ◌∙◌}
use Rattle.history.specs.Readable.{readable_lines}
use Rattle.history.proofs.Remaining.{line_kept, line_left_out, none_readable, comes_nearer}
use Rattle.history.proofs.readable.ReadableLinesIterator.next.Goals as goal

pub returns-then-is_readable-clause-steps : goal.returns-then-is_readable-clause-steps
returns-then-is_readable-clause-steps c = sym c.loop-line.invariant ∙ line_kept c.loop-line.self.lines.rest.now c.in-Some.line.now c.next.new.self.rest.now c.in-Some.ensures.steps c.if-is_readable.ensures.value

pub returns-then-is_readable-clause-goes : goal.returns-then-is_readable-clause-goes
returns-then-is_readable-clause-goes c = comes_nearer (λ s. readable_lines s.lines.rest.now) c.args.self.now _ _ (returns-then-is_readable-clause-steps c)

pub loop-line-preserved : goal.loop-line-preserved
loop-line-preserved c = line_left_out c.loop-line.self.lines.rest.now c.in-Some.line.now c.next.new.self.rest.now c.in-Some.ensures.steps c.if-is_readable.ensures.value ∙ c.loop-line.invariant

pub returns-clause-steps : goal.returns-clause-steps
returns-clause-steps c = (sym c.loop-line.invariant ∙ none_readable c.loop-line.self.lines.rest.now c.in_default.ensures.steps.0, none_readable c.next.new.self.rest.now c.in_default.ensures.steps.1)
