use Rattle.std.proofs.Common.{◌≡◌, get_or, take, Err, sym, ap, ◌∙◌, arith}
use Rattle.std.proofs.lemmas.Bool.{leb-true}
use Rattle.std.proofs.lemmas.Result.{err_from_is_err_and, MatchResult-at_ok, MatchResult-at_err}
use Rattle.jump.specs.Numeral.{value, one_more}
use Rattle.jump.proofs.Faults.{first_fault_more, read_more, stops_reading}
use Rattle.jump.proofs.number.magnitude.Goals as goal

pub returns-in_err-value-clause-value : goal.returns-in_err-value-clause-value
returns-in_err-value-clause-value c =
    let s = c.args.sign in
    let cs = c.args.digits.now in
    let i = c.loop-c.c-index in
    let back = err_from_is_err_and c.from_residual.result c.from_residual.ensures.1 in
    let read : c.read_on.result ≡ one_more s (value (take i cs)) (get_or cs i 0) = rw c.loop-c.invariant.1 at c.read_on.ensures.value in
    let fault = MatchResult-at_err _ _ c.in_err-value.field-0.0 c.in_err-value.was (read_more s cs i c.read_on.result c.loop-c-test.true read) in
    back.1 ∙ ap Err back.2 ∙ sym (stops_reading s cs i _ c.loop-c-test.true c.loop-c.invariant.0 fault)

pub loop-c-preserved : goal.loop-c-preserved
loop-c-preserved c =
    let s = c.args.sign in
    let cs = c.args.digits.now in
    let i = c.loop-c.c-index in
    let read : c.read_on.result ≡ one_more s (value (take i cs)) (get_or cs i 0) = rw c.loop-c.invariant.1 at c.read_on.ensures.value in
    let more = MatchResult-at_ok _ _ c.in_ok-value.value c.in_ok-value.was (read_more s cs i c.read_on.result c.loop-c-test.true read) in
    (first_fault_more s cs i c.loop-c.invariant.0 ∙ more.0, more.1, omega (arith, more.1, leb-true _ _ more.2))
