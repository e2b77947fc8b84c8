use Rattle.draft.specs.Draft.{draft_of}
use Rattle.draft.proofs.Scrolling.{Falling, Rising}
use Rattle.draft.proofs.state.PromptState.clamp_offset.Given as goal

abbrev pub invariant-loop-code : goal.invariant-loop-code
invariant-loop-code g l = Falling g.F.Font.columns (draft_of l.fn.self).line l.initial.offset l.code-iterator.iter.rest.now l.offset l.columns

abbrev pub invariant-loop-code-2 : goal.invariant-loop-code-2
invariant-loop-code-2 g l = Rising g.F.Font.columns (draft_of l.fn.self).line l.most l.initial.offset l.code-index l.offset l.columns
