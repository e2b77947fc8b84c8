use Rattle.std.proofs.Common.{not, arith, rules}
use Rattle.std.proofs.lemmas.Grind.{common_steps}
use Rattle.text.specs.Scalars.{white}
use Rattle.draft.proofs.words.move_word_backwards.Goals as goal

pub returns-clause-value : goal.returns-clause-value
returns-clause-value c =
    let turn = c.back_past-turn.ensures.value white (search rules) in
    let start = c.back_past.ensures.value (λ x. not (white x)) (search rules) in
    grind (arith, common_steps)
