use Rattle.std.proofs.Common.{◌<◌, ◌≤◌, leb, sym, subst, rules}
use Rattle.std.specs.List.Sorted.{IsPartitionedBy}
use Rattle.std.proofs.lemmas.Bool.{leb-true, leb-false}
use Rattle.std.proofs.lemmas.List.Sorted.{IsPartitionPoint-from_clause, IsPartitionedBy-leb}
use Rattle.cells.specs.declared.table.Mark.{Mark}
use Rattle.cells.specs.Slots.{column_of}
use Rattle.cells.proofs.Runs.{point}
use Rattle.cells.proofs.marks.Marks.end.Goals as goal

pub returns-in-Some-clause-ends : goal.returns-in-Some-clause-ends
returns-in-Some-clause-ends c =
    let k = c.args.column in
    let up_to = λ (m : Mark). leb m.column k in
    let first = subst (IsPartitionedBy up_to) (sym c.deref-in-Some.ensures.0) (IsPartitionedBy-leb column_of c.args.self.now.table.items k c.args.self.now.ordered) in
    point up_to (λ (m : Mark). m.column ≤ k) (λ (m : Mark). k < m.column) (λ m. leb-true m.column k) (λ m. leb-false m.column k) c.deref-in-Some.ensures.0
    (IsPartitionPoint-from_clause up_to c.deref-in-Some.result.now c.partition_point.result c.partition_point.ensures.partitioned first (λ a r f' q. search rules))
