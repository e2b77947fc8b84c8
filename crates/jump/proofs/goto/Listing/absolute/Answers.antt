use Rattle.std.proofs.Common.{arith}
use Rattle.std.proofs.lemmas.Int.{ints}
use Rattle.jump.proofs.goto.Listing.absolute.Goals as goal
use Rattle.jump.proofs.goto.Listing.absolute.Goals.{then-n-eq0, else-n-eq0+then-n-lines-2, else-n-eq0+else-n-lines-2+then-n-lt0, else-n-eq0+else-n-lines-2+else-n-lt0}

pub returns : goal.returns
returns c =
    elim c.if-n-eq0.branch [
      | then-n-eq0 w ↦ record { value = grind (arith, ints) }
      | else-n-eq0+then-n-lines-2 w ↦ record { value = grind (arith, ints) }
      | else-n-eq0+else-n-lines-2+then-n-lt0 w ↦ record { value = grind (arith, ints) }
      | else-n-eq0+else-n-lines-2+else-n-lt0 w ↦ record { value = grind (arith, ints) }
    ]
