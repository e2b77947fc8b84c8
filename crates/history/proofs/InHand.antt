-- The draft in hand among the others.
use Rattle.std.proofs.Common.{◌≡◌, List, [], ◌∷◌, map, ap, arith}
use Rattle.std.specs.List.{AllByRecursion}
use Rattle.std.proofs.lemmas.List.{length-map, map-set}
use Rattle.draft.specs.declared.state.PromptState.{PromptState}
use Rattle.draft.specs.Draft.{draft_of, Sound}
use Rattle.draft.proofs.Drafts.{drafts_are_sound}
use Rattle.history.specs.declared.store.PromptHistory.{PromptHistory}
use Rattle.history.specs.Session.{session, session_of, with_draft, SessionsAreSound}
use Rattle.history.specs.Lending.{with_hand}

all_sound : (xs : List PromptState) → AllByRecursion Sound (map draft_of xs)
all_sound [] = tt
all_sound (x ∷ xs) = (drafts_are_sound x, all_sound xs)

pub sessions_are_sound : SessionsAreSound
sessions_are_sound h =
    let size = length-map h.entries.items draft_of in
    record { hand_within = omega (arith, h.one_in_hand); few_enough = omega (arith, h.few); drafts_are_sound = all_sound h.entries.items }

-- another draft in hand is that draft in the session
pub hand_edited : (h : PromptHistory) (s : PromptState) → session_of (with_hand h s) ≡ with_draft (draft_of s) (session_of h)
hand_edited h s = ap (λ drafts. session drafts h.active_index) (map-set draft_of h.entries.items h.active_index s)
