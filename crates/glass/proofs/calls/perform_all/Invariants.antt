use Rattle.std.proofs.Common.{map, take}
use Rattle.glass.specs.Ties.{StaysTied}
use Rattle.glass.specs.Calls.{Drew}
use Rattle.glass.specs.Performed.{call_of}
use Rattle.glass.proofs.calls.perform_all.Given as goal

abbrev pub invariant-loop-made : goal.invariant-loop-made
invariant-loop-made g l =
    Drew g.G.Font.Font.columns g.G.Glass.row g.G.Glass.spare (take l.made-counter (map call_of l.calls)) l.initial.glass l.glass
    × StaysTied (take l.made-counter (map call_of l.calls)) (g.G.Glass.tied l.initial.glass) (g.G.Glass.tied l.glass)
