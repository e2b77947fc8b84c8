use Rattle.std.proofs.Common.{◌≡◌, arith, rules}
use Rattle.std.proofs.lemmas.Grind.{common_steps}
use Rattle.font.specs.Labels.{is_mark}
use Rattle.draft.specs.Line.{left_of}
use Rattle.draft.specs.Draft.{draft_of}
use Rattle.draft.proofs.Steps.{left_from_is}
use Rattle.draft.proofs.state.PromptState.move_prev_char.Goals as goal

pub returns : goal.returns
returns g c =
    let columns = g.F.Font.columns in
    let l = (draft_of c.args.self.now).line in
    let tie = left_from_is columns l.text l.place in
    let start = c.back_past.ensures.value (λ x. is_mark (columns x)) (search rules) in
    let prev : c.saturating_sub-prev.result ≡ left_of columns l = grind (arith, common_steps) in
    record { after = cc; answer_is = cc }
