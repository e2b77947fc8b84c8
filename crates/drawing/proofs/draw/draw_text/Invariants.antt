use Rattle.std.proofs.Common.{◌≤◌, [], length}
use Rattle.glass.proofs.DrewTied.{LeadsTied}
use Rattle.drawing.specs.Drawing.{pieces}
use Rattle.drawing.proofs.draw.draw_text.Given as goal

-- what is left is the drawing of the other characters from the column on
abbrev pub invariant-loop-piece : goal.invariant-loop-piece
invariant-loop-piece g l =
    let all = pieces g.G.Font.Font.columns l.width l.start [] l.chars in
    let left = pieces g.G.Font.Font.columns l.width l.column [] l.rest in
    record {
      inside : l.column ≤ l.width;
      leads : LeadsTied g.G.Font.Font.columns g.G.Glass.row g.G.Glass.spare g.G.Glass.tied all left l.initial.glass l.glass;
    }

abbrev pub decreases-loop-piece : goal.decreases-loop-piece
decreases-loop-piece g l = length l.rest
