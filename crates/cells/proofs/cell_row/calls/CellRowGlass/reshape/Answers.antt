use Rattle.std.proofs.Common.{◌≤◌, refl, arith, rules}
use Rattle.glass.specs.Row.{widest, width_of}
use Rattle.glass.specs.Calls.{reshape}
use Rattle.glass.proofs.Refusals.{not_refused, some_width}
use Rattle.cells.specs.Shows.{shows, spare_of}
use Rattle.cells.proofs.SlotCells.{blank_row_is}
use Rattle.cells.proofs.cell_row.calls.CellRowGlass.reshape.Goals as goal

pub returns-clause-obeys : goal.returns-clause-obeys
returns-clause-obeys g c =
    let s = c.args.self.now in
    let within : (1 ≤ c.args.width) × (c.args.width ≤ widest) = search rules in
    let fewer = c.truncate.ensures.fewer in (
      not_refused (reshape c.args.width) (width_of (shows s)) (spare_of s) (some_width c.args.width within.0 within.1) (omega arith) refl,
      blank_row_is c.args.width c.truncate.new.self.table.items c.make_blank.ensures.value (λ k. c.truncate.ensures.cut.gone k (omega arith)),
      omega arith,
    )
