use Rattle.std.proofs.Common.{sym}
use Rattle.drawing.proofs.RunsOut.{run_first}
use Rattle.drawing.proofs.piece.next_piece.Goals as goal

pub returns : goal.returns
returns g c =
    let first = c.in_ok-first.ensures.cases in
    let is = run_first g.F.Font.columns c.in_ok-first.first.now c.in_ok-first.after.now (sym c.if-has_label.ensures.value) in
    record { value = rw (c.split_at.ensures.front, c.split_at.ensures.back, c.run_length.ensures.value, first.0) is }
