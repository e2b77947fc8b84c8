use Rattle.std.proofs.Common.{◌≡◌, drop, arith}
use Rattle.std.proofs.lemmas.List.{at_drop_all}
use Rattle.font.specs.Labels.{text_columns}
use Rattle.font.proofs.Texts.{text_columns_bound}
use Rattle.font.proofs.measure.measured.Goals as goal

pub returns-clause-exact : goal.returns-clause-exact
returns-clause-exact g c =
    let columns = g.F.Font.columns in
    let text = c.args.text.now in
    let none : text_columns columns (drop c.loop-code.code-index text) ≡ 0 = at_drop_all (text_columns columns) text c.loop-code.code-index c.loop-code-test.false in
    λ short. omega (arith, c.loop-code.invariant.0, c.loop-code.invariant.1, text_columns_bound columns text)
