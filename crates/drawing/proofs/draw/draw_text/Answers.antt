use Rattle.std.proofs.Common.{◌+◌, ◌<◌, cond, ltb, [], ◌∷◌, length, arith}
use Rattle.std.proofs.lemmas.Bool.{lt-ltb, le-ltb, lt-leb, le-leb}
use Rattle.std.proofs.lemmas.List.{nil_from_length}
use Rattle.glass.specs.Calls.{clear}
use Rattle.glass.proofs.DrewTied.{LeadsTied, leads_first}
use Rattle.drawing.specs.Drawing.{pieces}
use Rattle.drawing.proofs.Progress.{may_call, called, none_left, run_step, label_step}
use Rattle.drawing.proofs.draw.draw_text.Given.{Over}
use Rattle.drawing.proofs.draw.draw_text.Goals.{Joined-next_piece, in-Some+in-Run+then-count-run, in-Some+in-Label+then-column-width, in_default}
use Rattle.drawing.proofs.draw.draw_text.Goals as goal

pub loop-piece-init : goal.loop-piece-init
loop-piece-init g c = record {
  inside = c.requires.inside;
  leads = leads_first g.G.Font.Font.columns g.G.Glass.row g.G.Glass.spare g.G.Glass.tied _ c.args.glass.now c.requires.allowed;
}

pub send-requires : goal.send-requires
send-requires g c =
    let now = c.loop-piece in
    let run = c.in-Run.run' in
    let fit = c.fitting-count in
    let stands = rw c.in-Run.is at c.in-Some.ensures.value in
    record { allowed = (run_step {all = pieces g.G.Font.Font.columns c.args.width c.args.start [] c.args.chars.now} c.args.width now.column now.rest.now c.in-Some.after.now now.invariant.inside now.invariant.leads run fit.result.count fit.result.columns stands fit.ensures.taken fit.ensures.fits fit.ensures.stops).allowed }

pub draw_label-column-requires : goal.draw_label-column-requires
draw_label-column-requires g c =
    let now = c.loop-piece in
    let stands = rw c.in-Label.is at c.in-Some.ensures.value in
    record { allowed = (label_step {all = pieces g.G.Font.Font.columns c.args.width c.args.start [] c.args.chars.now} c.args.width now.column now.rest.now c.in-Some.after.now now.invariant.inside now.invariant.leads c.in-Label.code stands).allowed }

pub loop-piece-preserved-else-count-run : goal.loop-piece-preserved-else-count-run
loop-piece-preserved-else-count-run g c =
    let now = c.loop-piece in
    let run = c.in-Run.run' in
    let fit = c.fitting-count in
    let stands = rw c.in-Run.is at c.in-Some.ensures.value in
    let step = run_step {all = pieces g.G.Font.Font.columns c.args.width c.args.start [] c.args.chars.now} c.args.width now.column now.rest.now c.in-Some.after.now now.invariant.inside now.invariant.leads run fit.result.count fit.result.columns stands fit.ensures.taken fit.ensures.fits fit.ensures.stops in
    record {
      inside = omega arith;
      leads = rw (le-ltb fit.result.count (length run.now) c.if-count-run.false) at (step.after c.send.new.glass c.send.ensures.drew c.send.ensures.keeps);
    }

pub loop-piece-preserved : goal.loop-piece-preserved
loop-piece-preserved g c =
    let now = c.loop-piece in
    let shown = c.draw_label-column in
    let stands = rw c.in-Label.is at c.in-Some.ensures.value in
    let step = label_step {all = pieces g.G.Font.Font.columns c.args.width c.args.start [] c.args.chars.now} c.args.width now.column now.rest.now c.in-Some.after.now now.invariant.inside now.invariant.leads c.in-Label.code stands in
    let leads = rw (← shown.ensures.value) at (step.after shown.new.glass shown.ensures.drew shown.ensures.keeps) in
    record {
      inside = omega arith;
      leads = rw (lt-leb c.args.width (now.column + shown.result) (omega arith)) at leads;
    }

-- after the last piece the rest of the row is to be cleared, if there is one
end_left : (g : Over) (c : Joined-next_piece g)
    → LeadsTied g.G.Font.Font.columns g.G.Glass.row g.G.Glass.spare g.G.Glass.tied (pieces g.G.Font.Font.columns c.args.width c.args.start [] c.args.chars.now) (cond (ltb c.match-next_piece.column c.args.width) (clear ∷ []) []) c.args.glass.now c.match-next_piece.glass
end_left g c =
    let now = c.loop-piece in
    elim c.match-next_piece.branch [
      | in-Some+in-Run+then-count-run w ↦
          let run = w.in-Run.run' in
          let fit = w.fitting-count in
          let stands = rw w.in-Run.is at w.in-Some.ensures.value in
          let step = run_step {all = pieces g.G.Font.Font.columns c.args.width c.args.start [] c.args.chars.now} c.args.width now.column now.rest.now w.in-Some.after.now now.invariant.inside now.invariant.leads run fit.result.count fit.result.columns stands fit.ensures.taken fit.ensures.fits fit.ensures.stops in
          let leads = step.after w.send.new.glass w.send.ensures.drew w.send.ensures.keeps in
          rw (w.glass-is, w.column-is) (rw (lt-ltb fit.result.count (length run.now) w.if-count-run.true) at leads)
      | in-Some+in-Label+then-column-width w ↦
          let shown = w.draw_label-column in
          let stands = rw w.in-Label.is at w.in-Some.ensures.value in
          let step = label_step {all = pieces g.G.Font.Font.columns c.args.width c.args.start [] c.args.chars.now} c.args.width now.column now.rest.now w.in-Some.after.now now.invariant.inside now.invariant.leads w.in-Label.code stands in
          let leads = rw (← shown.ensures.value) at (step.after shown.new.glass shown.ensures.drew shown.ensures.keeps) in
          rw (w.glass-is, w.column-is) (rw (le-leb c.args.width (now.column + shown.result) (omega arith)) at leads)
      | in_default w ↦
          let leads = rw (nil_from_length now.rest.now w.in_default.ensures.value) at now.invariant.leads in
          rw (w.glass-is, w.column-is) leads
    ]

clear_left : (g : Over) (c : Joined-next_piece g) → c.match-next_piece.column < c.args.width
    → LeadsTied g.G.Font.Font.columns g.G.Glass.row g.G.Glass.spare g.G.Glass.tied (pieces g.G.Font.Font.columns c.args.width c.args.start [] c.args.chars.now) (clear ∷ []) c.args.glass.now c.match-next_piece.glass
clear_left g c room = rw (lt-ltb c.match-next_piece.column c.args.width room) at (end_left g c)

pub perform-requires : goal.perform-requires
perform-requires g c = record { allowed = may_call (clear_left g (goal.at.perform-requires g c).Joined-next_piece c.if-column-width-2.true) }

pub returns-then-column-width-2 : goal.returns-then-column-width-2
returns-then-column-width-2 g c =
    let left = clear_left g (goal.at.returns-then-column-width-2 g c).Joined-next_piece c.if-column-width-2.true in
    let all = none_left (called left c.perform.ensures) in
    record { drew = all.0; keeps = all.1 }

pub returns-else-column-width-2 : goal.returns-else-column-width-2
returns-else-column-width-2 g c =
    let left = end_left g (goal.at.returns-else-column-width-2 g c).Joined-next_piece in
    let all = none_left (rw (le-ltb c.match-next_piece.column c.args.width c.if-column-width-2.false) at left) in
    record { drew = all.0; keeps = all.1 }
