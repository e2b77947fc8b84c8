use Rattle.draft.proofs.Furthest.{word_end_is_furthest, word_start_is_furthest}
use Rattle.draft.proofs.laws.walks_stand.Goals as goal

pub returns : goal.returns
returns c = record { end_is_furthest = word_end_is_furthest; start_is_furthest = word_start_is_furthest }
