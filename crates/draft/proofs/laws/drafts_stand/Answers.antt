use Rattle.draft.proofs.Drafts.{drafts_are_sound}
use Rattle.draft.proofs.laws.drafts_stand.Goals as goal

pub returns : goal.returns
returns c = record { are_sound = drafts_are_sound }
