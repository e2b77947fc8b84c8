use Rattle.std.proofs.Common.{◌+◌, ◌++◌, drop, sym, ap, ◌∙◌, rules}
use Rattle.std.proofs.lemmas.List.{take_rest}
use Rattle.history.specs.Lines.{unless_empty, lines}
use Rattle.history.proofs.Cutting.{cut_nowhere, cut_there}
use Rattle.history.proofs.lines.cut.Goals as goal

pub returns-in-Some-clause-lines_are : goal.returns-in-Some-clause-lines_are
returns-in-Some-clause-lines_are c =
    let bytes = c.args.bytes.now in
    let end = c.in-Some.end in
    rw take_rest (cut_there bytes end (search rules) (search rules) (search rules)
    ∙ ap (λ l. unless_empty l ++ lines (drop (end + 1) bytes)) (sym c.without_return.ensures.value))

pub returns-in-None-clause-lines_are : goal.returns-in-None-clause-lines_are
returns-in-None-clause-lines_are c = cut_nowhere c.args.bytes.now (search rules)
