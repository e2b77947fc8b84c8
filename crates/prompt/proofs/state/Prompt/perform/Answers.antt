use Rattle.std.proofs.Common.{sym, subst}
use Rattle.glass.specs.Ties.{StaysTied}
use Rattle.prompt.specs.declared.session.Call.{Call}
use Rattle.prompt.specs.Made.{calls_made}
use Rattle.prompt.specs.Requests.{request}
use Rattle.prompt.proofs.state.Prompt.perform.Goals as goal

pub returns-in-Key-clause-keeps : goal.returns-in-Key-clause-keeps
returns-in-Key-clause-keeps g c =
    subst (λ (k : Call). StaysTied (calls_made g.G.Font.Font.columns g.G.Glass.row g.G.Glass.spare (request k) c.args.self.now c.args.glass.now) (g.G.Glass.tied c.args.glass.now) (g.G.Glass.tied c.key.new.glass)) (sym c.in-Key.is) c.key.ensures.keeps
