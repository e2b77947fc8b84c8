-- Worked by hand: lines, and the texts that they load to.
use Rattle.std.specs.Prelude.{◌≡◌, [], ◌∷◌, codes}
use Rattle.history.specs.Loading.{backslash}
use Rattle.history.specs.Readable.{loaded}

pub record LoadExamples : Type 0 where
  -- \x+5
  pub plus_and_a_digit : loaded (backslash ∷ codes "x+5") ≡ 0x05 ∷ []
  -- a\x4
  pub one_place_short : loaded (0x61 ∷ backslash ∷ codes "x4") ≡ codes "a"
  -- a\
  pub ends_in_backslash : loaded (0x61 ∷ backslash ∷ []) ≡ codes "a"
  -- \xZZb
  pub no_digits : loaded (backslash ∷ codes "xZZb") ≡ codes "b"
