-- What a line of history loads to. A backslash takes the next character as itself, but x takes two more as one code.
use Rattle.std.specs.Prelude.{◌≡◌, ℕ, ◌+◌, ◌-◌, ◌*◌, cond, List, [], ◌∷◌, ◌++◌, Some, None, Option, ◌==◌, ◌≢◌}
use Rattle.std.specs.Option.{option_to_list}
use Rattle.text.specs.Scalars.{within}
use Rattle.history.specs.declared.loader.Loader.{Loader}
use Rattle.history.specs.declared.loader.Loader.TheVariants.{Plain, AfterBackslash, TwoWanted, OneWanted}

abbrev pub backslash : ℕ
backslash = 0x5C

abbrev pub small_x : ℕ
small_x = 0x78

abbrev pub plus : ℕ
plus = 0x2B

-- a hex digit of either case
abbrev pub hex_value : ℕ → Option ℕ
hex_value c = cond (within 0x30 0x39 c) (Some (c - 0x30)) (cond (within 0x41 0x46 c) (Some (c - 0x37)) (cond (within 0x61 0x66 c) (Some (c - 0x57)) None))

-- a + may stand for the first of two
abbrev pub first_value : ℕ → Option ℕ
first_value c = cond (c == plus) (Some 0) (hex_value c)

abbrev pub paired : Option ℕ → Option ℕ → Option ℕ
paired None low = None
paired (Some high) None = None
paired (Some high) (Some low) = Some (high * 16 + low)

-- two hex digits, or + and one, as one code
abbrev pub code_of : (first second : ℕ) → Option ℕ
code_of first second = paired (first_value first) (hex_value second)

-- The loader takes one character after another: where it goes, and what it adds to the text.
abbrev pub stepped : Loader → ℕ → Loader
stepped Plain c = cond (c == backslash) AfterBackslash Plain
stepped AfterBackslash c = cond (c == small_x) TwoWanted Plain
stepped TwoWanted c = OneWanted c
stepped (OneWanted first) c = Plain

abbrev pub added : Loader → ℕ → Option ℕ
added Plain c = cond (c == backslash) None (Some c)
added AfterBackslash c = cond (c == small_x) None (Some c)
added TwoWanted c = None
added (OneWanted first) c = code_of first c

abbrev pub load_from : Loader → List ℕ → List ℕ
load_from loader [] = []
load_from loader (c ∷ cs) = option_to_list (added loader c) ++ load_from (stepped loader c) cs

unfoldable pub load : List ℕ → List ℕ
load characters = load_from Plain characters

-- These say what characters load to, and know nothing of the loader.
pub record LoadLaws : Type 0 where
  pub nothing : load [] ≡ []
  pub as_itself : (c : ℕ) (cs : List ℕ) → (c ≢ backslash) → load (c ∷ cs) ≡ c ∷ load cs
  pub after_backslash : (c : ℕ) (cs : List ℕ) → (c ≢ small_x) → load (backslash ∷ c ∷ cs) ≡ c ∷ load cs
  pub as_one_code : (first second : ℕ) (cs : List ℕ) → load (backslash ∷ small_x ∷ first ∷ second ∷ cs) ≡ option_to_list (code_of first second) ++ load cs
  -- an end is consumed, and adds nothing
  pub ends_after_backslash : load (backslash ∷ []) ≡ []
  pub ends_before_the_first : load (backslash ∷ small_x ∷ []) ≡ []
  pub ends_before_the_second : (first : ℕ) → load (backslash ∷ small_x ∷ first ∷ []) ≡ []
