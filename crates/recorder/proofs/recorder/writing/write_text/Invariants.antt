use Rattle.std.proofs.Common.{◌≡◌, ◌+◌, true, length, take, drop}
use lib.Utf8.{encodes, scalars}
use Rattle.recorder.specs.Log.{written_at}
use Rattle.recorder.proofs.recorder.writing.write_text.Given as goal

abbrev pub invariant-loop-c : goal.invariant-loop-c
invariant-loop-c l = record {
  so_far : l.bytes ≡ written_at l.at (encodes (take l.c-index l.characters)) l.initial.bytes;
  after : l.end ≡ l.at + length (encodes (take l.c-index l.characters));
  scalar : scalars (drop l.c-index l.characters) ≡ true;
}
