use Rattle.std.proofs.Common.{◌≡◌, ◌*◌, ◌≤◌, length, take}
use Rattle.history.specs.Spelling.{spell}
use Rattle.history.proofs.spelling.spell.Given as goal

abbrev pub invariant-loop-c : goal.invariant-loop-c
invariant-loop-c l = record { spells : l.out.items ≡ spell (take l.c-index l.c-items); short : length l.out.items ≤ 4 * l.c-index }
