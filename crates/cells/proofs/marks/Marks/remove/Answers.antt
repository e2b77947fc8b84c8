use Rattle.std.proofs.Common.{◌≤◌, length, take, drop, rules, arith, ap, length-append, length-take, length-drop, ◌∙◌}
use Rattle.cells.proofs.Runs.{none_removed, removed, removed_in_order}
use Rattle.cells.proofs.marks.Marks.remove.Goals as goal

pub invariant_of-self : goal.invariant_of-self
invariant_of-self c =
    let ms = c.args.self.now.table.items in
    let a = c.run-run.result.start in
    let b = c.run-run.result.end in
    let e = c.drop.ensures (omega arith) ∙ c.drain.ensures.kept in
    record { ordered = rw e (removed_in_order c.args.column ms a b c.run-run.ensures.run c.args.self.now.ordered); room = omega (arith, ap length e, length-append (take a ms) (drop b ms), length-take a ms, length-drop b ms) }

pub returns-then-not-is_empty-clause-only : goal.returns-then-not-is_empty-clause-only
returns-then-not-is_empty-clause-only c =
    let ms = c.args.self.now.table.items in
    let a = c.run-run.result.start in
    let b = c.run-run.result.end in
    let e = c.drop.ensures (omega arith) ∙ c.drain.ensures.kept in
    rw e (removed c.args.column ms a b c.run-run.ensures.run)

pub returns-else-not-is_empty-clause-only : goal.returns-else-not-is_empty-clause-only
returns-else-not-is_empty-clause-only c =
    let a = c.run-run.result.start in
    let b = c.run-run.result.end in
    let none : b ≤ a = search rules in
    none_removed c.args.column c.args.self.now.table.items a b c.run-run.ensures.run none c.run-run.ensures.within.0
