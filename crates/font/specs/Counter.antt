-- The counter font: 20 to 7E and A0 to FF take one column each, and nothing else has a width.
use Rattle.std.specs.Prelude.{ℕ, cond, ◌||◌}
use Rattle.text.specs.Scalars.{within}
use Rattle.font.specs.declared.Columns.{Columns}
use Rattle.font.specs.declared.Columns.TheVariants.{NoWidth, One}

abbrev pub counter_columns : ℕ → Columns
counter_columns c = cond (within 0x20 0x7E c || within 0xA0 0xFF c) One NoWidth
