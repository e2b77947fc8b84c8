-- What the loader makes of characters, in the words of the rule.
use Rattle.std.proofs.Common.{◌≡◌, ℕ, false, eqb, List, ◌∷◌, refl}
use Rattle.std.specs.Str.{chars}
use Rattle.std.proofs.lemmas.Bool.{ne_eqb}
use Rattle.history.specs.declared.loader.Loader.TheVariants.{Plain}
use Rattle.history.specs.Loading.{backslash, small_x, load_from, load, LoadLaws}
use Rattle.history.specs.Examples.{LoadExamples}

pub as_itself : (c : ℕ) (cs : List ℕ) → (c ≡ backslash → ⊥) → load_from Plain (c ∷ cs) ≡ c ∷ load_from Plain cs
as_itself c cs other = let e : eqb c backslash ≡ false = ne_eqb c backslash other in rw e

after_backslash : (c : ℕ) (cs : List ℕ) → (c ≡ small_x → ⊥) → load_from Plain (backslash ∷ c ∷ cs) ≡ c ∷ load_from Plain cs
after_backslash c cs other = let e : eqb c small_x ≡ false = ne_eqb c small_x other in rw e

pub load_laws : LoadLaws
unfolding load
load_laws = record {
  nothing = refl;
  as_itself = as_itself;
  after_backslash = after_backslash;
  as_one_code = λ first second cs. refl;
  ends_after_backslash = refl;
  ends_before_the_first = refl;
  ends_before_the_second = λ first. refl;
}

pub load_examples : LoadExamples
unfolding load chars
load_examples = record { plus_and_a_digit = refl; one_place_short = refl; ends_in_backslash = refl; no_digits = refl }
