use Rattle.std.proofs.Common.{◌≡◌, ◌+◌, min, length, drop, take, ap, ◌∙◌, arith, rules}
use Rattle.std.specs.List.{prefix_len}
use Rattle.std.proofs.lemmas.Iterator.{YieldsList-from_slice}
use Rattle.std.proofs.lemmas.Iterator.Search.{YieldsList-from_take_while}
use Rattle.std.proofs.lemmas.Iterator.Consumers.{count_from_yields_List}
use Rattle.std.proofs.lemmas.List.Folds.{length-prefix_len}
use Rattle.std.proofs.lemmas.Grind.{common_steps}
use borrow.Author.Tests.{tests}
use Rattle.text.proofs.walks.on_past.Goals as goal

pub returns-clause-value : goal.returns-clause-value
returns-clause-value g c passes computes =
    let at = min c.args.from (length c.args.text.now) in
    let rest = drop at c.args.text.now in
    let m : c.min-from.result ≡ at = c.min-from.ensures in
    let r = c.iter.ensures.rest in
    let here : c.iter.result.rest.now ≡ rest = grind (arith, common_steps, r, m) in
    let counted : c.count.result ≡ length (take (prefix_len passes rest) rest) =
    count_from_yields_List c.take_while.result c.count.result c.count.ensures.ran
    (YieldsList-from_take_while _ passes
    (YieldsList-from_slice rest (ap (λ it. it.rest.now) c.take_while.ensures.source ∙ here))
    c.take_while.ensures.closure c.take_while.ensures.done
    (λ x b q k. search (rules, tests, computes))) in
    rw m (ap (λ n. at + n) (counted ∙ length-prefix_len passes rest))
