use Rattle.cells.proofs.Runs.{added}
use Rattle.cells.proofs.marks.Marks.add.Goals as goal

pub returns-else-end-len-clause-only : goal.returns-else-end-len-clause-only
returns-else-end-len-clause-only c = rw c.insert.ensures.items (added c.args.mark.column c.args.self.now.table.items c.end-end.result c.end-end.ensures.ends c.args.mark.code)
