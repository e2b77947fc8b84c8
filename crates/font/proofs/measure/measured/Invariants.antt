use Rattle.std.proofs.Common.{◌≡◌, ◌+◌, ◌-◌, ◌^◌, ◌<◌, min, drop}
use Rattle.font.specs.Labels.{text_columns}
use Rattle.font.proofs.measure.measured.Given as goal

-- What is counted and what is left make the whole, both held to the largest number.
abbrev pub invariant-loop-code : goal.invariant-loop-code
invariant-loop-code g l =
    (l.columns < 2 ^ 64)
    × (min (l.columns + text_columns g.F.Font.columns (drop l.code-index l.text)) (2 ^ 64 - 1) ≡ min (text_columns g.F.Font.columns l.text) (2 ^ 64 - 1))
