use Rattle.std.proofs.Common.{◌≡◌, true, false, is_some, sym, ◌∙◌, arith, rules}
use Rattle.history.proofs.Texts.{counted_none, nothing_counted_more, one_counted_more, counted_too_many, loaded_to_the_end}
use Rattle.history.proofs.readable.is_loadable.Goals as goal

pub loop-c-init : goal.loop-c-init
loop-c-init c = counted_none c.args.line.now

pub returns-then-count-eq-CAPACITY : goal.returns-then-count-eq-CAPACITY
returns-then-count-eq-CAPACITY c =
    let some : is_some c.take.result ≡ true = search rules in
    record { value = sym (counted_too_many c.args.line.now c.loop-c.rest.now c.loop-c.loader c.loop-c.count c.in-Some.c c.in-Some.after.now c.loop-c.invariant c.in-Some.ensures.value c.take.result c.take.ensures.answer_is some c.if-count-eq-CAPACITY.true) }

pub loop-c-preserved-else-count-eq-CAPACITY : goal.loop-c-preserved-else-count-eq-CAPACITY
loop-c-preserved-else-count-eq-CAPACITY c =
    let some : is_some c.take.result ≡ true = search rules in
    one_counted_more c.args.line.now c.loop-c.rest.now c.loop-c.loader c.loop-c.count c.in-Some.c c.in-Some.after.now c.loop-c.invariant c.in-Some.ensures.value c.take.new.self c.take.result c.take.ensures.after c.take.ensures.answer_is some
    (omega (arith, c.if-count-eq-CAPACITY.false, c.loop-c.invariant.counts, c.loop-c.invariant.sofar.fits))

pub loop-c-preserved : goal.loop-c-preserved
loop-c-preserved c =
    let none : is_some c.take.result ≡ false = search rules in
    nothing_counted_more c.args.line.now c.loop-c.rest.now c.loop-c.loader c.loop-c.count c.in-Some.c c.in-Some.after.now c.loop-c.invariant c.in-Some.ensures.value c.take.new.self c.take.result c.take.ensures.after c.take.ensures.answer_is none

pub returns : goal.returns
returns c =
    record { value = c.is_empty.ensures ∙ loaded_to_the_end c.args.line.now c.loop-c.rest.now c.loop-c.loader c.loop-c.invariant.text c.loop-c.invariant.sofar c.in_default.ensures.value }
