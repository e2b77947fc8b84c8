use Rattle.text.specs.Utf8.{characters}
use Rattle.text.proofs.Readings.{Writing}
use Rattle.text.proofs.utf8.decode.Given as goal

abbrev pub invariant-loop-place : goal.invariant-loop-place
invariant-loop-place l = Writing (characters l.bytes) l.characters.rest.now l.fn.out l.out l.place-index
