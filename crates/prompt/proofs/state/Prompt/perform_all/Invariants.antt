use Rattle.std.proofs.Common.{◌≡◌, map, take, drop}
use Rattle.prompt.specs.Made.{ChangedByCalls}
use Rattle.prompt.specs.Requests.{request}
use Rattle.prompt.specs.Runs.{Run}
use Rattle.prompt.proofs.state.Prompt.perform_all.Given as goal

abbrev pub invariant-loop-i : goal.invariant-loop-i
invariant-loop-i g l = record {
  runs : Run g.G.Font.Font.columns g.G.Glass.row g.G.Glass.spare l.initial.self l.initial.glass (map request (take l.i l.calls)) (take l.i l.replies) l.self l.glass;
  keeps : ChangedByCalls (g.G.Glass.tied l.initial.glass) (g.G.Glass.tied l.glass);
  rest_kept : drop l.i l.replies ≡ drop l.i l.initial.replies;
}
