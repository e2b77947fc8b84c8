use Rattle.std.proofs.Common.{◌≡◌, ◌++◌, length, drop}
use Rattle.font.specs.Labels.{hex}
use Rattle.font.proofs.hex.write_hex.Given as goal

-- The digits still to be written, and those that are.
abbrev pub invariant-loop-i : goal.invariant-loop-i
invariant-loop-i l = hex l.i l.rest ++ drop l.i l.places ≡ hex (length l.places) l.number
