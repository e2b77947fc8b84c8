use Rattle.std.proofs.Common.{map, ap, ◌∙◌, arith}
use Rattle.std.specs.List.{slice_range}
use Rattle.cells.specs.Slots.{code_of}
use Rattle.cells.proofs.Runs.{run_between}
use Rattle.cells.proofs.marks.Marks.of.Goals as goal

pub returns : goal.returns
returns c =
    let a = c.run.result.start in
    let b = c.run.result.end in
    record { value = ap (λ ms. map code_of (slice_range ms a b)) c.deref.ensures.0 ∙ ap (map code_of) (run_between c.args.column c.args.self.now.table.items a b c.run.ensures.run (omega arith) c.run.ensures.within.1) }
