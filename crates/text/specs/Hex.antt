-- A digit below 16 as a character: 0 to 9, then A to F.
use Rattle.std.specs.Prelude.{ℕ, ◌+◌, cond, nat_lt}

abbrev pub hex_digit : ℕ → ℕ
hex_digit d = cond (nat_lt d 10) (0x30 + d) (0x37 + d)
