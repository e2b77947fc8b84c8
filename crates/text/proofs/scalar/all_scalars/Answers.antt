use Rattle.std.proofs.Common.{refl, rules}
use Rattle.std.proofs.lemmas.List.Recursion.{and_is}
use lib.Utf8.{scalar, scalars}
use Rattle.text.proofs.scalar.all_scalars.Goals as goal

pub returns : goal.returns
returns c = record { value = and_is scalars scalar refl (λ _ _. refl) c.args.codes.now 0 _ (search rules) (search rules) }
