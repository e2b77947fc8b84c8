use Rattle.std.proofs.Common.{◌≡◌, Ok, Err, arith, rules}
use Rattle.text.specs.declared.refusal.Refusal.{Refusal}
use Rattle.glass.proofs.Drew.{drew_none}
use Rattle.glass.proofs.Ties.{tied_still, tied_more, tied_until, tied_all}
use Rattle.glass.proofs.Performs.{performed_more, performed_until, performed_all}
use Rattle.glass.proofs.calls.perform_all.Goals as goal

pub returns-in_err-map_err : goal.returns-in_err-map_err
returns-in_err-map_err g c =
    let e : (x : Refusal) × (c.perform.result ≡ Err x) × (c.from_residual.result ≡ Err (record { made = c.loop-made.made-counter; refusal = x })) = search rules in
    rw e.2 (record {
      performed = performed_until g.G.Font.Font.columns g.G.Glass.row g.G.Glass.spare c.args.calls.now c.args.glass.now c.loop-made.made-counter _ e.0 c.loop-made.glass c.perform.new.glass (omega arith) c.loop-made.invariant.0 (rw e.1 at c.perform.ensures.obeys);
      keeps = tied_until c.loop-made.invariant.1 (rw e.1 at c.perform.ensures.keeps);
    })

pub loop-made-preserved : goal.loop-made-preserved
loop-made-preserved g c =
    let e : c.perform.result ≡ Ok tt = search rules in (
      performed_more g.G.Font.Font.columns g.G.Glass.row g.G.Glass.spare c.args.calls.now c.args.glass.now c.loop-made.made-counter _ c.loop-made.glass c.perform.new.glass (omega arith) c.loop-made.invariant.0 (rw e at c.perform.ensures.obeys),
      tied_more c.args.calls.now c.loop-made.made-counter _ (omega arith) c.loop-made.invariant.1 (rw e at c.perform.ensures.keeps),
    )

pub returns : goal.returns
returns g c =
    record {
      performed = performed_all g.G.Font.Font.columns g.G.Glass.row g.G.Glass.spare c.args.calls.now c.args.glass.now c.loop-made.made-counter c.loop-made.glass (omega arith) c.loop-made.invariant.0;
      keeps = tied_all c.args.calls.now c.loop-made.made-counter (omega arith) c.loop-made.invariant.1;
    }

pub loop-made-init : goal.loop-made-init
loop-made-init g c = (drew_none g.G.Font.Font.columns g.G.Glass.row g.G.Glass.spare c.args.glass.now, tied_still (g.G.Glass.tied c.args.glass.now))
