use Rattle.std.proofs.Common.{List, sym, subst, arith}
use Rattle.glass.specs.Calls.{GlassCall, Allowed, Drew}
use Rattle.glass.specs.Ties.{StaysTied}
use Rattle.draft.specs.Draft.{draft_of}
use Rattle.prompt.proofs.Ready.{prompt_framed}
use Rattle.prompt.proofs.state.Prompt.render.Goals as goal

pub draw-requires-clause-allowed : goal.draw-requires-clause-allowed
draw-requires-clause-allowed g c =
    let cols = g.G.Font.Font.columns in
    let f = c.args.glass.now in
    let e = prompt_framed cols c.args.self.now c.args.width (draft_of c.state-draft.result.now) c.as_slice.result.now c.shown.result.now c.cursor_position.result c.min-cursor.result
    c.as_slice.ensures.value c.state-draft.ensures.value c.shown.ensures.value c.cursor_position.ensures.value (omega arith) in
    subst (λ (ks : List GlassCall). Allowed cols ks (g.G.Glass.row f) (g.G.Glass.spare f)) (sym e) c.requires.allowed

pub returns : goal.returns
returns g c =
    let cols = g.G.Font.Font.columns in
    let f = c.args.glass.now in
    let h = c.draw.new.glass in
    let e = prompt_framed cols c.args.self.now c.args.width (draft_of c.state-draft.result.now) c.as_slice.result.now c.shown.result.now c.cursor_position.result c.min-cursor.result
    c.as_slice.ensures.value c.state-draft.ensures.value c.shown.ensures.value c.cursor_position.ensures.value (omega arith) in
    record {
      drew = subst (λ (ks : List GlassCall). Drew cols g.G.Glass.row g.G.Glass.spare ks f h) e c.draw.ensures.drew;
      keeps = subst (λ (ks : List GlassCall). StaysTied ks (g.G.Glass.tied f) (g.G.Glass.tied h)) e c.draw.ensures.keeps;
    }
