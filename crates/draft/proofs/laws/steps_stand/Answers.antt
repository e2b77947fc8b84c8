use Rattle.draft.proofs.Undone.{left_undoes_right, left_undoes_right_only_there}
use Rattle.draft.proofs.laws.steps_stand.Goals as goal

pub returns : goal.returns
returns c = record { left_undoes_right = left_undoes_right; only_there = left_undoes_right_only_there }
