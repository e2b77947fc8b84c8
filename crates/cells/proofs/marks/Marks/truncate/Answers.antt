use Rattle.cells.proofs.Runs.{cut}
use Rattle.cells.proofs.marks.Marks.truncate.Goals as goal

pub returns-clause-cut : goal.returns-clause-cut
returns-clause-cut c =
    rw c.truncate.ensures.items (cut c.args.column c.args.self.now.table.items c.start-start.result c.start-start.ensures.starts)
