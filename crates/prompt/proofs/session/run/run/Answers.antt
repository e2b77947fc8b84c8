use Rattle.prompt.proofs.Kept.{session_promise}
use Rattle.prompt.proofs.session.run.run.Goals as goal

pub returns-clause-row_shows_the_draft : goal.returns-clause-row_shows_the_draft
returns-clause-row_shows_the_draft g c =
    session_promise g.G.Font.Font.columns g.met.G.Font.Font.ascii_has_one_column g.G.Glass.row g.G.Glass.spare c.perform_all.ensures.runs c.args.label.now c.args.history.now c.in_ok-prompt.ensures.newly_opened
