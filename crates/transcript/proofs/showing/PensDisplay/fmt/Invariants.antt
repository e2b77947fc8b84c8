use Rattle.std.proofs.Common.{map}
use Rattle.std.specs.Fmt.{HasWritten, IsPlainFormatter}
use Rattle.std.specs.List.{range_with_len}
use Rattle.cells.specs.Shows.{shows}
use Rattle.transcript.specs.Showing.{sign_at}
use Rattle.transcript.proofs.showing.PensDisplay.fmt.Given as goal

abbrev pub invariant-loop-column : goal.invariant-loop-column
invariant-loop-column g l =
    IsPlainFormatter l.initial.f → HasWritten g.W.Write.write_str_gives l.initial.f (map (sign_at (shows l.self.0.now)) (range_with_len 0 l.column)) l.f
