use Rattle.std.proofs.Common.{◌-◌, ◌≤◌, length, ap, rules}
use Rattle.glass.specs.Row.{widest}
use Rattle.glass.proofs.Refusals.{some_width}
use Rattle.cells.specs.Slots.{most_marks, marks_of}
use Rattle.cells.proofs.SlotCells.{blank_row_is}
use Rattle.cells.proofs.cell_row.CellRow.new.Goals as goal

pub returns : goal.returns
returns g c =
    let within : (1 ≤ c.args.width) × (c.args.width ≤ widest) = search rules in
    let none = c.new-2.ensures.none in
    record {
      made = (
        some_width c.args.width within.0 within.1,
        blank_row_is c.args.width c.new-2.result.table.items c.blank_slots.ensures.value (λ k. ap (marks_of k) none),
        ap (λ ms. most_marks - length ms) none,
      );
    }
