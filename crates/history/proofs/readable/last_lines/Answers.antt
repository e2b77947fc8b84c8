use Rattle.std.proofs.Common.{◌≡◌, ◌+◌, ◌-◌, drop, ap, ◌∙◌, inl, arith}
use Rattle.history.specs.Readable.{readable_lines}
use Rattle.history.proofs.Remaining.{few_readable, dropped_more}
use Rattle.history.proofs.readable.last_lines.Goals as goal

pub count-requires-clause-fits : goal.count-requires-clause-fits
count-requires-clause-fits c = inl (omega (arith, few_readable c.args.bytes.now, few_readable c.new.result.lines.rest.now))

pub loop-skipped-preserved : goal.loop-skipped-preserved
loop-skipped-preserved c =
    let left = c.saturating_sub-surplus.result - c.loop-skipped._skipped in
    let one_less : c.saturating_sub-surplus.result - (c.loop-skipped._skipped + 1) ≡ left - 1 = omega arith in
    ap (λ n. drop n (readable_lines c.next.new.self.lines.rest.now)) one_less
    ∙ dropped_more (λ s. readable_lines s.lines.rest.now) c.loop-skipped.kept c.next.new.self c.next.result left c.next.ensures.steps (omega arith) ∙ c.loop-skipped.invariant
