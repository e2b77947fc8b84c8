use Rattle.std.proofs.Common.{◌≡◌, ℕ, [], ◌∷◌, List, take, sym, ap, ◌∙◌, subst}
use Rattle.font.specs.Labels.{label as spelling}
use Rattle.glass.specs.declared.PenChange.TheVariants.{ReverseOff}
use Rattle.glass.specs.Calls.{pen}
use Rattle.glass.proofs.DrewTied.{LeadsTied, leads_first}
use Rattle.drawing.specs.Drawing.{reversed}
use Rattle.drawing.proofs.Progress.{may_call, called, none_left}
use Rattle.drawing.proofs.draw.draw_label.Given.{Over}
use Rattle.drawing.proofs.draw.draw_label.Goals.{After-perform-2}
use Rattle.drawing.proofs.draw.draw_label.Goals as goal

-- before the last call
last_left : (g : Over) (c : After-perform-2 g)
    → LeadsTied g.G.Font.Font.columns g.G.Glass.row g.G.Glass.spare g.G.Glass.tied (reversed (take c.args.room (spelling c.args.code)) []) (pen ReverseOff ∷ []) c.args.glass.now c.perform-2.new.glass
last_left g c =
    let columns = g.G.Font.Font.columns in
    let row = g.G.Glass.row in
    let spare = g.G.Glass.spare in
    let tied = g.G.Glass.tied in
    let all = reversed (take c.args.room (spelling c.args.code)) [] in
    let e : c.truncated-shown.result.now ≡ take c.args.room (spelling c.args.code) = c.truncated-shown.ensures.value ∙ ap (take c.args.room) c.of-label.ensures.value in
    let first = subst (λ (cs : List ℕ). LeadsTied columns row spare tied all (reversed cs []) c.args.glass.now c.args.glass.now) (sym e) (leads_first columns row spare tied all c.args.glass.now c.requires.allowed) in
    called (called first c.perform.ensures) c.perform-2.ensures

pub perform-requires-3 : goal.perform-requires-3
perform-requires-3 g c = record { allowed = may_call (last_left g (goal.at.perform-requires-3 g c).After-perform-2) }

pub returns-clause-keeps : goal.returns-clause-keeps
returns-clause-keeps g c = (none_left (called (last_left g (goal.at.returns-clause-keeps g c).After-perform-2) c.perform-3.ensures)).1
