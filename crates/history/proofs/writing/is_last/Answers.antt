use Rattle.std.proofs.Common.{Some, ap, ◌∙◌}
use Rattle.history.specs.Readable.{readable_lines}
use Rattle.history.specs.Writing.{is_last}
use Rattle.history.proofs.Remaining.{given_whole}
use Rattle.history.proofs.Rewriting.{same_line, last_found}
use Rattle.history.proofs.writing.is_last.Goals as goal

pub returns : goal.returns
returns c =
    let line = c.args.line in
    let read = c.last.ensures.ran in
    let all = given_whole (λ s. readable_lines s.lines.rest.now) read.0 c.new.result read.1 ∙ ap readable_lines c.new.ensures.starts_at in
    record { value = c.eq.ensures ∙ ap (λ o. same_line o (Some line)) read.2 ∙ last_found line read.0 ∙ ap (is_last line.now) all }
