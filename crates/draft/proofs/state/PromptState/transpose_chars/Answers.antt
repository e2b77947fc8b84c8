use Rattle.std.proofs.Common.{◌≡◌, ◌+◌, min, true, length, take, refl, ap, ◌∙◌, arith}
use lib.Utf8.{scalars}
use Rattle.std.proofs.lemmas.List.{length-take-le}
use Rattle.std.proofs.lemmas.Bool.Decides.{nat_tests}
use Rattle.draft.specs.Line.{can_swap}
use Rattle.draft.specs.Draft.{draft_of}
use Rattle.draft.proofs.Scalars.{scalars_swapped}
use Rattle.draft.proofs.Drafts.{same_draft, text_swapped}
use Rattle.draft.proofs.state.PromptState.transpose_chars.Goals as goal

pub invariant_of-self : goal.invariant_of-self
invariant_of-self c =
    let s = c.args.self.now in
    let text = ap (take s.len) (c.swap.ensures.by_index.3 0) ∙ text_swapped s.value s.len c.min-place.result (omega arith) (omega arith) in
    let kept : scalars (take s.len c.swap.new.self) ≡ true = rw text (scalars_swapped c.min-place.result (draft_of s).line.text s.ok.4) in
    record { ok = (omega arith, omega arith, omega arith, omega arith, kept) }

pub returns-clause-after : goal.returns-clause-after
returns-clause-after c =
    let s = c.args.self.now in
    let size : length (draft_of s).line.text ≡ s.len = length-take-le s.len s.value (omega arith) in
    let yes : can_swap (draft_of s).line ≡ true = grind (arith, nat_tests) in
    let place : min (s.position + 1) (length (draft_of s).line.text) ≡ c.min-place.result = omega arith in
    let text = ap (take s.len) (c.swap.ensures.by_index.3 0) ∙ text_swapped s.value s.len c.min-place.result (omega arith) (omega arith) in
    rw (yes, place) (same_draft _ _ _ _ _ _ text refl (omega arith))
