-- What a transcript says of what calls came to.
use Rattle.std.specs.Prelude.{ℕ, List, ◌++◌, codes}
use Rattle.std.specs.Fmt.{decimal}
use Rattle.jump.specs.declared.goto.Jump.{Jump}
use Rattle.jump.specs.declared.goto.Jump.TheVariants.{Quit, Stay, Line}

-- as `line 7`
abbrev pub destination_text : Jump → List ℕ
destination_text Quit = codes "quit"
destination_text Stay = codes "stay"
destination_text (Line line) = codes "line " ++ decimal line
