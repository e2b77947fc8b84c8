use Rattle.std.proofs.Common.{◌≡◌, ◌∷◌, ◌++◌, [], ◌∙◌}
use Rattle.glass.specs.declared.PenChange.TheVariants.{Plain}
use Rattle.glass.specs.Calls.{place, pen, text}
use Rattle.glass.proofs.DrewTied.{LeadsTied, leads_first}
use Rattle.drawing.specs.Drawing.{pieces, text_start, framed}
use Rattle.drawing.proofs.Progress.{step, may_call, called, none_left}
use Rattle.drawing.proofs.draw.draw.Given.{Over}
use Rattle.drawing.proofs.draw.draw.Goals.{After-deref}
use Rattle.drawing.proofs.draw.draw.Goals as goal

-- the label is next
label_left : (g : Over) (c : After-deref g) → let columns = g.G.Font.Font.columns in
    LeadsTied columns g.G.Glass.row g.G.Glass.spare g.G.Glass.tied (framed columns c.args.label.now c.args.shown.now c.args.cursor c.args.width)
    (text c.deref.result.now ∷ pen Plain ∷ text (0x20 ∷ []) ∷ (pieces columns c.args.width (text_start c.args.label.now) [] c.args.shown.now ++ (place c.args.cursor ∷ []))) c.args.glass.now c.perform-2.new.glass
label_left g c =
    let columns = g.G.Font.Font.columns in
    let all = framed columns c.args.label.now c.args.shown.now c.args.cursor c.args.width in
    let first = leads_first columns g.G.Glass.row g.G.Glass.spare g.G.Glass.tied all c.args.glass.now c.requires.allowed in
    let title : c.deref.result.now ≡ 0x20 ∷ 0x20 ∷ (c.args.label.now ++ (0x20 ∷ [])) = c.deref.ensures.0 ∙ c.titled.ensures.value in
    rw title (called (called first c.perform.ensures) c.perform-2.ensures)

pub perform-requires-3 : goal.perform-requires-3
perform-requires-3 g c = record { allowed = may_call (label_left g (goal.at.perform-requires-3 g c).After-deref) }

pub perform-requires-4 : goal.perform-requires-4
perform-requires-4 g c = record { allowed = may_call (called (label_left g (goal.at.perform-requires-4 g c).After-deref) c.perform-3.ensures) }

pub perform-requires-5 : goal.perform-requires-5
perform-requires-5 g c = record { allowed = may_call (called (called (label_left g (goal.at.perform-requires-5 g c).After-deref) c.perform-3.ensures) c.perform-4.ensures) }

pub draw_text-requires-clause-allowed : goal.draw_text-requires-clause-allowed
draw_text-requires-clause-allowed g c =
    let left = label_left g (goal.at.draw_text-requires-clause-allowed g c).After-deref in
    (step (pieces g.G.Font.Font.columns c.args.width (text_start c.args.label.now) [] c.args.shown.now) (place c.args.cursor ∷ []) (called (called (called left c.perform-3.ensures) c.perform-4.ensures) c.perform-5.ensures)).allowed

pub perform-requires-6 : goal.perform-requires-6
perform-requires-6 g c =
    let left = label_left g (goal.at.perform-requires-6 g c).After-deref in
    let text_step = step (pieces g.G.Font.Font.columns c.args.width (text_start c.args.label.now) [] c.args.shown.now) (place c.args.cursor ∷ []) (called (called (called left c.perform-3.ensures) c.perform-4.ensures) c.perform-5.ensures) in
    record { allowed = may_call (text_step.after c.draw_text.new.glass c.draw_text.ensures.drew c.draw_text.ensures.keeps) }

pub returns : goal.returns
returns g c =
    let left = label_left g (goal.at.returns g c).After-deref in
    let text_step = step (pieces g.G.Font.Font.columns c.args.width (text_start c.args.label.now) [] c.args.shown.now) (place c.args.cursor ∷ []) (called (called (called left c.perform-3.ensures) c.perform-4.ensures) c.perform-5.ensures) in
    let all = none_left (called (text_step.after c.draw_text.new.glass c.draw_text.ensures.drew c.draw_text.ensures.keeps) c.perform-6.ensures) in
    record { drew = all.0; keeps = all.1 }
