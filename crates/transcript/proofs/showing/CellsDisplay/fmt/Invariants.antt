use Rattle.std.proofs.Common.{take}
use Rattle.std.specs.Fmt.{HasWritten, IsPlainFormatter}
use Rattle.std.specs.List.{flat_map}
use Rattle.cells.specs.Shows.{shows}
use Rattle.transcript.specs.Showing.{cell_text}
use Rattle.transcript.proofs.showing.CellsDisplay.fmt.Given as goal

abbrev pub invariant-loop-column : goal.invariant-loop-column
invariant-loop-column g l =
    IsPlainFormatter l.initial.f → HasWritten g.W.Write.write_str_gives l.initial.f (flat_map cell_text (take l.column (shows l.self.0.now).cells)) l.f
