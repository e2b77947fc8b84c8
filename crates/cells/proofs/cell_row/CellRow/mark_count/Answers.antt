use Rattle.std.proofs.Common.{sym, ◌∙◌}
use Rattle.arrayvec.specs.ArrayVec.{array_vec_len}
use Rattle.cells.specs.Shows.{records}
use Rattle.cells.proofs.Counts.{marks_counted}
use Rattle.cells.proofs.cell_row.CellRow.mark_count.Goals as goal

pub returns-clause-value : goal.returns-clause-value
returns-clause-value g c =
    let s = c.args.self.now in
    c.len.ensures.value ∙ sym (marks_counted s.slots.items (array_vec_len s.slots) (records s) s.inside)
