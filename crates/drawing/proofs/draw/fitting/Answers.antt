use Rattle.std.proofs.Common.{get_or, take, ap, ◌∙◌, arith}
use Rattle.std.proofs.lemmas.List.{take_more}
use Rattle.font.specs.Labels.{text_columns}
use Rattle.font.proofs.Texts.{text_columns_push}
use Rattle.drawing.proofs.draw.fitting.Goals as goal

pub loop-count-preserved : goal.loop-count-preserved
loop-count-preserved g c =
    let run = c.args.run.now in
    let n = c.loop-count.count in
    let columns = g.F.Font.columns in
    let one_more = ap (text_columns columns) (take_more run n 0 c.loop-count-test.true) ∙ text_columns_push columns (take n run) (get_or run n 0) in
    record { taken = omega (arith, one_more, c.columns_in-more.ensures.value); fits = omega arith }
