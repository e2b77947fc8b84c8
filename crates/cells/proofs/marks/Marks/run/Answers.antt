use Rattle.cells.specs.Marked.{IsRun}
use Rattle.cells.proofs.Runs.{run_in_order}
use Rattle.cells.proofs.marks.Marks.run.Goals as goal

pub returns : goal.returns
returns c =
    let k = c.args.column in
    let ms = c.args.self.now.table.items in
    let run : IsRun k ms c.start.result c.end.result = record { starts = c.start.ensures.starts; ends = c.end.ensures.ends } in
    let b = c.end.ensures.within in
    record { run = run; within = (run_in_order k ms c.start.result c.end.result run c.start.ensures.within b, b) }
