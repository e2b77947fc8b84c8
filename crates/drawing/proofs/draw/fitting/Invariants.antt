use Rattle.std.proofs.Common.{◌≡◌, ◌≤◌, take}
use Rattle.font.specs.Labels.{text_columns}
use Rattle.drawing.proofs.draw.fitting.Given as goal

-- the characters so far fit
abbrev pub invariant-loop-count : goal.invariant-loop-count
invariant-loop-count g l = record {
  taken : l.columns ≡ text_columns g.F.Font.columns (take l.count l.run);
  fits : l.columns ≤ l.room;
}
