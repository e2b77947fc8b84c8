use Rattle.history.proofs.Rewriting.{put_more}
use Rattle.history.proofs.writing.put_lines.Goals as goal

pub loop-line-preserved : goal.loop-line-preserved
loop-line-preserved c =
    record {
      can_next = tt;
      is_finite = tt;
      put = put_more c.args.lines.now c.loop-line.line-iterator.lines.rest.now c.in-Some.line.now c.next.new.self.lines.rest.now c.args.out.now c.loop-line.out c.put_line-at.new.out c.loop-line.at c.put_line-at.result c.loop-line.invariant.put c.in-Some.ensures.steps c.requires.room c.put_line-at.ensures.value c.put_line-at.ensures.after;
    }
