use Rattle.std.proofs.Common.{◌≡◌, ◌+◌, ◌-◌, true, length, take, is_ok, sym, refl, arith, rules}
use borrow.Rule.Slice.PartMut.{put_mid}
use lib.Utf8.{scalars}
use Rattle.std.proofs.lemmas.List.{places}
use Rattle.draft.specs.Draft.{draft_of}
use Rattle.draft.proofs.Scalars.{scalars_inserted}
use Rattle.draft.proofs.Drafts.{same_draft, text_inserted}
use Rattle.draft.proofs.state.PromptState.insert.Goals as goal

pub invariant_of-self : goal.invariant_of-self
invariant_of-self c =
    let s = c.args.self.now in
    let cs = c.args.chars.now in
    let text = text_inserted s.value c.open_gap.new.items c.copy_from_slice.new.self cs s.len s.position (is_ok c.open_gap.result) (omega arith) (omega arith) c.open_gap.ensures.opens c.open_gap.ensures.after c.copy_from_slice.ensures.after in
    let kept : scalars (take (s.len + length cs) (put_mid s.position (s.position + length cs - s.position) c.open_gap.new.items c.copy_from_slice.new.self)) ≡ true = rw text (scalars_inserted s.position cs (draft_of s).line.text (sym c.if-not-all_scalars.ensures.value) s.ok.4) in
    record { ok = (omega arith, omega arith, omega arith, search (rules, places), kept) }

pub returns-clause-after : goal.returns-clause-after
returns-clause-after c =
    let s = c.args.self.now in
    let text = text_inserted s.value c.open_gap.new.items c.copy_from_slice.new.self c.args.chars.now s.len s.position (is_ok c.open_gap.result) (omega arith) (omega arith) c.open_gap.ensures.opens c.open_gap.ensures.after c.copy_from_slice.ensures.after in
    same_draft _ _ _ _ _ _ text refl (omega arith)
