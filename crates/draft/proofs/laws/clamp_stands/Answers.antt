use Rattle.draft.proofs.Clamp.{clamp_scrolls_well, clamp_keeps_well_scrolled}
use Rattle.draft.proofs.laws.clamp_stands.Goals as goal

pub returns : goal.returns
returns c = record { scrolls_well = clamp_scrolls_well; keeps_well_scrolled = clamp_keeps_well_scrolled }
