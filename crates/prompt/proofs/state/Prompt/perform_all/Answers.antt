use Rattle.std.proofs.Common.{◌≡◌, min, length, refl, arith}
use Rattle.prompt.specs.Runs.{none}
use Rattle.prompt.proofs.CallTied.{changed_none, changed_more}
use Rattle.prompt.proofs.Runs.{again, rest_kept}
use Rattle.prompt.proofs.state.Prompt.perform_all.Goals as goal

pub loop-i-init : goal.loop-i-init
loop-i-init g c = record { runs = none; keeps = changed_none (g.G.Glass.tied c.args.glass.now); rest_kept = refl }

pub loop-i-preserved : goal.loop-i-preserved
loop-i-preserved g c =
    let n : c.min-count.result ≡ min (length c.args.calls.now) (length c.args.replies.now) = c.min-count.ensures in
    record {
      runs = again g.G.Font.Font.columns g.G.Glass.row g.G.Glass.spare c.args.calls.now c.loop-i.replies c.loop-i.i _ c.perform.result (omega arith) (omega arith) c.loop-i.invariant.runs c.perform.ensures.one_call;
      keeps = changed_more c.loop-i.invariant.keeps c.perform.ensures.keeps;
      rest_kept = rest_kept c.loop-i.replies c.args.replies.now c.loop-i.i c.perform.result c.loop-i.invariant.rest_kept;
    }

pub returns : goal.returns
returns g c =
    let n : c.min-count.result ≡ min (length c.args.calls.now) (length c.args.replies.now) = c.min-count.ensures in
    let i : c.loop-i.i ≡ min (length c.args.calls.now) (length c.args.replies.now) = omega arith in
    record { runs = simp i at c.loop-i.invariant.runs; keeps = c.loop-i.invariant.keeps; rest_kept = simp i at c.loop-i.invariant.rest_kept }
