use Rattle.std.proofs.Common.{◌<◌, ◌≤◌, ltb, sym, subst, rules}
use Rattle.std.specs.List.Sorted.{IsPartitionedBy}
use Rattle.std.proofs.lemmas.Bool.{ltb-true, ltb-false}
use Rattle.std.proofs.lemmas.List.Sorted.{IsPartitionPoint-from_clause, IsPartitionedBy-ltb}
use Rattle.cells.specs.declared.table.Mark.{Mark}
use Rattle.cells.specs.Slots.{column_of}
use Rattle.cells.proofs.Runs.{point}
use Rattle.cells.proofs.marks.Marks.start.Goals as goal

pub returns-in-Some-clause-starts : goal.returns-in-Some-clause-starts
returns-in-Some-clause-starts c =
    let k = c.args.column in
    let low = λ (m : Mark). ltb m.column k in
    let first = subst (IsPartitionedBy low) (sym c.deref-in-Some.ensures.0) (IsPartitionedBy-ltb column_of c.args.self.now.table.items k c.args.self.now.ordered) in
    point low (λ (m : Mark). m.column < k) (λ (m : Mark). k ≤ m.column) (λ m. ltb-true m.column k) (λ m. ltb-false m.column k) c.deref-in-Some.ensures.0
    (IsPartitionPoint-from_clause low c.deref-in-Some.result.now c.partition_point.result c.partition_point.ensures.partitioned first (λ a r f' q. search rules))
