use Rattle.std.proofs.Common.{◌≡◌, ◌≤◌, ◌⊎◌, min, length, inl, inr, arith}
use Rattle.draft.specs.Draft.{draft_of}
use Rattle.draft.specs.Scroll.{margin}
use Rattle.draft.proofs.Drafts.{drafts_are_sound}
use Rattle.draft.proofs.Scrolling.{in_sight, falls_on, fallen_at, rises_on, risen_at}
use Rattle.draft.proofs.state.PromptState.clamp_offset.Goals as goal
use Rattle.draft.proofs.state.PromptState.clamp_offset.Goals.{in-None, in-Some+then-columns-ge-MARGIN, else-loop-code-2-test, then-loop-code-2-test+then-columns-most}

pub loop-code-preserved : goal.loop-code-preserved
loop-code-preserved g c =
    let s = c.args.self.now in
    falls_on g.F.Font.columns (draft_of s).line _ _ c.next.new.self.iter.rest.now _ _ _ _ s.ok.0 (drafts_are_sound s).place_up_to_end c.loop-code.invariant c.in-Some.ensures.steps c.columns_in-columns.ensures.value c.if-columns-ge-MARGIN.false

pub overflow_sub-columns : goal.overflow_sub-columns
overflow_sub-columns g c =
    let s = c.args.self.now in
    let v = c.as_slice-text.ensures.value in
    let low : c.loop-code.offset ≤ s.position = omega (arith, c.loop-code.invariant.low) in
    (rises_on g.F.Font.columns (draft_of s).line _ _ _ _ _ _ low (drafts_are_sound s).place_up_to_end c.loop-code-2.invariant (rw v at c.loop-code-2-test.true) (rw v at c.columns_in-columns-in-loop-code-2.ensures.value) c.if-columns-most.false).0

pub loop-code-2-preserved : goal.loop-code-2-preserved
loop-code-2-preserved g c =
    let s = c.args.self.now in
    let v = c.as_slice-text.ensures.value in
    let low : c.loop-code.offset ≤ s.position = omega (arith, c.loop-code.invariant.low) in
    (rises_on g.F.Font.columns (draft_of s).line _ _ _ _ _ _ low (drafts_are_sound s).place_up_to_end c.loop-code-2.invariant (rw v at c.loop-code-2-test.true) (rw v at c.columns_in-columns-in-loop-code-2.ensures.value) c.if-columns-most.false).1

pub returns : goal.returns
returns g c =
    let s = c.args.self.now in
    let l = (draft_of s).line in
    let end = (drafts_are_sound s).place_up_to_end in
    let v = c.as_slice-text.ensures.value in
    let first : min s.offset s.position ≡ s.offset = omega arith in
    let fell : (length c.loop-code.code-iterator.iter.rest.now ≡ 0) ⊎ (margin ≤ c.loop-code.columns) =
    elim c.match-next.branch [ in-None w ↦ inl w.in-None.ensures.steps.0 | in-Some+then-columns-ge-MARGIN w ↦ inr w.if-columns-ge-MARGIN.true ] in
    let down = fallen_at g.F.Font.columns l _ _ _ _ s.ok.0 end c.loop-code.invariant fell in
    let low : c.loop-code.offset ≤ s.position = omega (arith, c.loop-code.invariant.low) in
    let at_most = rw v at c.loop-code-2.auto.code-index-end in
    let rose : (c.loop-code-2.code-index ≡ length (in_sight g.F.Font.columns l c.saturating_sub-most.result c.loop-code.offset)) ⊎ (c.loop-code-2.columns ≤ c.saturating_sub-most.result) =
    elim c.loop-code-2-test.branch [ else-loop-code-2-test w ↦ inl (let at_least = rw v at w.loop-code-2-test.false in omega arith) | then-loop-code-2-test+then-columns-most w ↦ inr w.if-columns-most.true ] in
    let up = risen_at g.F.Font.columns l _ _ _ _ _ low end c.loop-code-2.invariant rose in
    record { after = rw (first, down, ← c.saturating_sub-most.ensures, up) }
