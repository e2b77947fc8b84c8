use Rattle.std.proofs.Common.{◌≡◌, ◌-◌, min, max, true, take, is_ok, refl, arith}
use lib.Utf8.{scalars}
use Rattle.draft.specs.Draft.{draft_of}
use Rattle.draft.proofs.Scalars.{scalars_without}
use Rattle.draft.proofs.Drafts.{same_draft, text_without}
use Rattle.draft.proofs.state.PromptState.remove_to.Goals as goal

pub invariant_of-self : goal.invariant_of-self
invariant_of-self c =
    let s = c.args.self.now in
    let text = text_without s.value c.close_gap.new.items s.len c.min-from.result c.max.result (is_ok c.close_gap.result) (omega arith) (omega arith) (omega arith) c.close_gap.ensures.closes c.close_gap.ensures.after in
    let kept : scalars (take (s.len - (c.max.result - c.min-from.result)) c.close_gap.new.items) ≡ true = rw text (scalars_without c.min-from.result c.max.result (draft_of s).line.text s.ok.4) in
    record { ok = (omega arith, omega arith, omega arith, omega arith, kept) }

pub returns-clause-after : goal.returns-clause-after
returns-clause-after c =
    let s = c.args.self.now in
    let text = text_without s.value c.close_gap.new.items s.len c.min-from.result c.max.result (is_ok c.close_gap.result) (omega arith) (omega arith) (omega arith) c.close_gap.ensures.closes c.close_gap.ensures.after in
    let low : min s.position c.args.reach ≡ c.min-from.result = omega arith in
    let high : max s.position c.args.reach ≡ c.max.result = omega arith in
    rw (low, high) (same_draft _ _ _ _ _ _ text refl c.min-self.ensures)
