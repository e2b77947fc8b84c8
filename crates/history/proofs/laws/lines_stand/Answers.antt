use Rattle.history.proofs.Cutting.{lines_laws}
use Rattle.history.proofs.laws.lines_stand.Goals as goal

pub returns : goal.returns
returns c = record { laws = lines_laws }
