-- A small font for trials.
use Rattle.std.specs.Prelude.{ℕ, cond, ◌&&◌, ◌||◌, nat_le, nat_lt}
use Rattle.font.specs.declared.Columns.{Columns}
use Rattle.font.specs.declared.Columns.TheVariants.{NoWidth, Zero, One, Two}

-- no width for controls, no columns for 0300–036F, two for 3041–309F, one for all others
abbrev pub trial_columns : ℕ → Columns
trial_columns c =
    cond (nat_lt c 0x20 || (nat_le 0x7F c && nat_le c 0x9F)) NoWidth
    (cond (nat_le 0x300 c && nat_le c 0x36F) Zero
    (cond (nat_le 0x3041 c && nat_le c 0x309F) Two One))
