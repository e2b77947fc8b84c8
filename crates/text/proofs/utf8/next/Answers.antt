use Rattle.std.proofs.Common.{refl, arith, ltb-false}
use Rattle.text.specs.Utf8.{single, pair, triple, quad}
use Rattle.text.proofs.Sequences.{front_and_rest}
use Rattle.text.proofs.utf8.next.Goals as goal

pub returns-in-len1-up : goal.returns-in-len1-up
returns-in-len1-up c = record { value = (_, single c.if-a-le127.true, front_and_rest 1 c.args.bytes.now (omega (arith, ltb-false))) }

pub returns-in-len2-up : goal.returns-in-len2-up
returns-in-len2-up c = record { value = (_, pair (c.if-is_pair.ensures.value.0 refl), front_and_rest 2 c.args.bytes.now (omega (arith, ltb-false))) }

pub returns-in-len3-up : goal.returns-in-len3-up
returns-in-len3-up c = record { value = (_, triple (c.if-is_triple.ensures.value.0 refl), front_and_rest 3 c.args.bytes.now (omega (arith, ltb-false))) }

pub returns-in-len4-up : goal.returns-in-len4-up
returns-in-len4-up c = record { value = (_, quad (c.if-is_quad.ensures.value.0 refl), front_and_rest 4 c.args.bytes.now (omega (arith, ltb-false))) }
