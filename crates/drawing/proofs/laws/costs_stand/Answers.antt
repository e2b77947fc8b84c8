use Rattle.drawing.proofs.Cost.{drawing_costs}
use Rattle.drawing.proofs.Allowed.{drawing_is_allowed}
use Rattle.drawing.proofs.laws.costs_stand.Goals as goal

pub returns : goal.returns
returns c = record { stays_below = drawing_costs; is_never_refused = drawing_is_allowed }
