use Rattle.std.proofs.Common.{◌<◌, ◌≤◌, length, refl, ap, subst, rules}
use Rattle.std.proofs.Output.{has_written_append, has_written_of_eq}
use Rattle.std.proofs.lemmas.List.{take_all}
use Rattle.std.specs.List.{flat_map}
use Rattle.cells.specs.Shows.{shows}
use Rattle.glass.specs.Row.{blank_cell, width_of}
use Rattle.transcript.proofs.Rows.{slot_is_shown}
use Rattle.transcript.proofs.Written.{one_more}
use Rattle.transcript.specs.Showing.{cell_text}
use Rattle.transcript.proofs.showing.CellsDisplay.fmt.Goals as goal

pub loop-column-preserved : goal.loop-column-preserved
loop-column-preserved g c = λ plain.
    let row = shows c.args.self.now.0.now in
    let before = c.loop-column.invariant plain in
    let inside : c.loop-column.column < width_of row = subst (λ w. c.loop-column.column < w) c.width-column-end.ensures.value c.loop-column-test.true in
    let slot = slot_is_shown row c.loop-column.column c.cell.result c.unwrap_or.result inside c.cell.ensures.value c.unwrap_or.ensures in
    let ink = rw slot at c.in_ok-write_ink.ensures.text before.plain refl in
    let marks = rw c.marks.ensures.value at c.in_ok-write_marks.ensures.text ink.plain refl in
    one_more _ cell_text row.cells c.loop-column.column blank_cell _ _ _ inside before (has_written_append _ _ _ _ _ _ ink marks)

pub returns-clause-writes : goal.returns-clause-writes
returns-clause-writes g c = λ plain _.
    let row = shows c.args.self.now.0.now in
    let at_end : length row.cells ≤ c.loop-column.column = subst (λ w. w ≤ c.loop-column.column) c.width-column-end.ensures.value (search rules) in
    has_written_of_eq _ _ _ _ _ (ap (flat_map cell_text) (take_all c.loop-column.column row.cells at_end)) (c.loop-column.invariant plain)
