use Rattle.std.proofs.Common.{◌≡◌, ◌≤◌, take, None}
use Rattle.jump.specs.Numeral.{value, limit, first_fault}
use Rattle.jump.proofs.number.magnitude.Given as goal

-- what was read so far is free of faults, its value is this, and that is within the limit
abbrev pub invariant-loop-c : goal.invariant-loop-c
invariant-loop-c l =
    (first_fault l.sign l.digits l.c-index ≡ None) × (l.value ≡ value (take l.c-index l.digits)) × (l.value ≤ limit l.sign)
