use Rattle.std.proofs.Common.{◌≡◌, take}
use Rattle.prompt.proofs.open.characters_of.Given as goal

abbrev pub invariant-loop-byte : goal.invariant-loop-byte
invariant-loop-byte l = l.characters.items ≡ take l.byte-index l.label
