use Rattle.std.proofs.Common.{ltb-true, sym}
use Rattle.font.proofs.Tables.{rising, found, held_there}
use Rattle.font.proofs.foyer.look_up.Goals as goal

pub returns-then-code-last : goal.returns-then-code-last
returns-then-code-last c =
    let at = c.in-Some.ensures.lookup in
    record { value = held_there c.args.table.now c.args.code _ c.in-Some.field-0.now (rising _ c.requires.rises) (ltb-true _ _ (sym at.0)) at.1 c.if-first-code.true c.if-code-last.true }

pub returns-in-Some-get : goal.returns-in-Some-get
returns-in-Some-get c =
    let at = c.in-Some-get.ensures.lookup in
    record { value = found c.args.table.now c.args.code c.ended_before.result c.in-Some-get.field-0.now (rising _ c.requires.rises) c.ended_before.ensures.ended (ltb-true _ _ (sym at.0)) at.1 c.if-first-code-2.true }
