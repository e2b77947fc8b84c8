-- What a history in memory becomes where its draft in hand is lent.
use Rattle.std.specs.Prelude.{◌<◌, ◌≤◌}
use Rattle.std.specs.Borrow.{Lends, MutBor, Fml}
use Rattle.std.proofs.Common.{sym, subst}
use Rattle.std.proofs.lemmas.List.{length-set}
use Rattle.arrayvec.specs.ArrayVec.{with_item}
use Rattle.draft.specs.declared.state.PromptState.{PromptState}
use Rattle.draft.specs.contracts.state.PromptState as draft
use Rattle.history.specs.declared.store.PromptHistory.{PromptHistory}
use Rattle.history.specs.contracts.store.PromptHistory as history
use Rattle.history.specs.Limits.{most_drafts}

-- another draft in hand: the others are as they were
abbrev pub with_hand : PromptHistory → PromptState → PromptHistory
with_hand h s =
    let same_number = sym (length-set h.entries.items h.active_index s) in
    record {
      entries = with_item h.entries h.active_index s;
      active_index = h.active_index;
      one_in_hand = subst (λ n. h.active_index < n) same_number h.one_in_hand;
      few = subst (λ n. n ≤ most_drafts) same_number h.few;
    }

-- once the borrow ends, the draft in hand is what was last written through it
abbrev pub lends_hand : MutBor PromptHistory → MutBor PromptState → Fml
lends_hand h r = Lends history.the_row draft.the_row h r (with_hand h.now)
