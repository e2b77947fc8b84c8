use Rattle.std.proofs.Common.{map, refl, sym, ap}
use Rattle.std.proofs.Math.ListN.{get_or-map}
use Rattle.std.proofs.Output.{has_written_of_eq}
use Rattle.std.proofs.lemmas.List.{length-map}
use Rattle.cells.specs.Slots.{code_of}
use Rattle.transcript.proofs.Written.{one_more}
use Rattle.transcript.specs.Showing.{char_text}
use Rattle.transcript.proofs.showing.write_marks.Goals as goal

pub loop-mark-preserved : goal.loop-mark-preserved
loop-mark-preserved g c = λ plain.
    let before = c.loop-mark.invariant plain in
    let same = get_or-map code_of c.args.marks.now c.loop-mark.mark-index (record { column = 0; code = 0 }) in
    let now = has_written_of_eq _ _ _ _ _ (ap char_text (sym same)) (c.in_ok-write_code.ensures.text before.plain refl) in
    one_more _ char_text (map code_of c.args.marks.now) c.loop-mark.mark-index 0 _ _ _ (rw (length-map c.args.marks.now code_of) c.loop-mark-test.true) before now
