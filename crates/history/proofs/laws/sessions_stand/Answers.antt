use Rattle.history.proofs.InHand.{sessions_are_sound}
use Rattle.history.proofs.laws.sessions_stand.Goals as goal

pub returns : goal.returns
returns c = record { are_sound = sessions_are_sound }
