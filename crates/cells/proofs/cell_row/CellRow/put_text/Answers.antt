use Rattle.std.proofs.Common.{◌+◌, drop, sym, ap, ◌∙◌, arith}
use Rattle.std.proofs.lemmas.List.{at_drop_more, at_drop_all}
use Rattle.glass.specs.Calls.{with_text}
use Rattle.cells.specs.Shows.{shows}
use Rattle.cells.proofs.cell_row.CellRow.put_text.Goals as goal

pub loop-c-preserved : goal.loop-c-preserved
loop-c-preserved g c =
    let i = c.loop-c.invariant in
    let m = c.put_character.ensures.more in (
      ap (with_text g.F.Font.columns (drop (c.loop-c.c-index + 1) c.args.characters.now)) c.put_character.ensures.row
          ∙ sym (at_drop_more (λ cs. with_text g.F.Font.columns cs (shows c.loop-c.self)) c.args.characters.now c.loop-c.c-index 0 c.loop-c-test.true)
          ∙ i.0,
      omega arith,
    )

pub returns : goal.returns
returns g c =
    let i = c.loop-c.invariant in
    record {
      row = sym (at_drop_all (λ cs. with_text g.F.Font.columns cs (shows c.loop-c.self)) c.args.characters.now c.loop-c.c-index (omega arith)) ∙ i.0;
      more = omega arith;
    }
