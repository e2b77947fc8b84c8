-- A small font to try drafts with.
use Rattle.std.specs.Prelude.{ℕ, cond}
use Rattle.text.specs.Scalars.{within}
use Rattle.font.specs.declared.Columns.{Columns}
use Rattle.font.specs.declared.Columns.TheVariants.{NoWidth, Zero, One, Two}

abbrev pub sample_columns : ℕ → Columns
sample_columns c = cond (within 0x20 0x7E c) One (cond (within 0x300 0x36F c) Zero (cond (within 0x4E00 0x9FFF c) Two NoWidth))
