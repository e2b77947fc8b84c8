use Rattle.draft.proofs.Letters.{letter_needs_no_scrolling}
use Rattle.draft.proofs.laws.letter_stands.Goals as goal

pub returns : goal.returns
returns c = record { needs_no_scrolling = letter_needs_no_scrolling }
