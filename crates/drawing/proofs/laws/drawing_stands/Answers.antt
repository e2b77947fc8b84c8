use Rattle.drawing.proofs.Forgets.{drawing_forgets}
use Rattle.drawing.proofs.laws.drawing_stands.Goals as goal

pub returns : goal.returns
returns c = record { forgets_the_row = drawing_forgets }
