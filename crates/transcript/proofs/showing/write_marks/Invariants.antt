use Rattle.std.proofs.Common.{map, take}
use Rattle.std.specs.Fmt.{HasWritten, IsPlainFormatter}
use Rattle.std.specs.List.{flat_map}
use Rattle.cells.specs.Slots.{code_of}
use Rattle.transcript.specs.Showing.{char_text}
use Rattle.transcript.proofs.showing.write_marks.Given as goal

abbrev pub invariant-loop-mark : goal.invariant-loop-mark
invariant-loop-mark g l =
    IsPlainFormatter l.initial.f → HasWritten g.W.Write.write_str_gives l.initial.f (flat_map char_text (take l.mark-index (map code_of l.fn.marks))) l.f
