use Rattle.std.proofs.Common.{map, length, rules}
use Rattle.glass.specs.Performed.{call_of, made}
use Rattle.recorder.specs.Log.{making_refused}
use Rattle.mirror.proofs.Ends.{ends}
use Rattle.mirror.proofs.draw_both.Goals as goal

pub returns-clause-rest_kept : goal.returns-clause-rest_kept
returns-clause-rest_kept g c =
    let m = c.new-recorder.ensures in
    let o = making_refused c.args.width (length c.args.buffer.now) in
    let ks = made (map call_of c.args.calls.now) c.perform_all-recorded.result in
    let e = ends c.new-recorder.result c.perform_all-recorded.new.glass _ c.args.line c.args.width c.args.buffer.now o ks m.tied.0 m.tied.1 m.rest_kept m.opens c.perform_all-recorded.ensures.keeps in
    let b = e.same_buffer in let r = e.rest_kept in
    search rules
