-- What a history in memory means: its drafts, and which of them is in hand.
use Rattle.std.specs.Prelude.{ℕ, ◌+◌, ◌-◌, ◌<◌, ◌≤◌, cond, List, [], ◌∷◌, ◌++◌, map, length, Ok, Err, Result, nat_le, nat_lt, slice_index_or, slice_set}
use Rattle.std.specs.List.{AllByRecursion}
use Rattle.text.specs.declared.refusal.Refusal.{Refusal}
use Rattle.text.specs.declared.refusal.Refusal.TheVariants.{HistoryTooLong}
use Rattle.draft.specs.declared.action.DisplayAction.{DisplayAction}
use Rattle.draft.specs.Line.{line, empty_line}
use Rattle.draft.specs.Draft.{Draft, draft, draft_of, Sound}
use Rattle.draft.specs.Edits.{redraw_if}
use Rattle.history.specs.declared.store.PromptHistory.{PromptHistory}
use Rattle.history.specs.Limits.{longest_history, most_remembered, most_drafts}
use Rattle.history.specs.Readable.{loaded, readable_lines, last_of}

pub record Session : Type 0 where
  pub drafts : List Draft
  pub hand : ℕ

abbrev pub session : List Draft → (hand : ℕ) → Session
session drafts hand = record { drafts = drafts; hand = hand }

abbrev pub session_of : PromptHistory → Session
session_of h = session (map draft_of h.entries.items) h.active_index

abbrev pub empty_draft : Draft
empty_draft = draft empty_line 0

abbrev pub draft_in_hand : Session → Draft
draft_in_hand s = slice_index_or s.drafts s.hand empty_draft

-- another draft in hand: the others are as they were
abbrev pub with_draft : Draft → Session → Session
with_draft d s = session (slice_set s.drafts s.hand d) s.hand

-- the draft before comes in hand, if there is one
abbrev pub going_back : Session → Session
going_back s = session s.drafts (s.hand - 1)

abbrev pub answer_back : Session → DisplayAction
answer_back s = redraw_if (nat_lt 0 s.hand)

-- the draft after comes in hand, if there is one
abbrev pub going_on : Session → Session
going_on s = session s.drafts (cond (nat_lt (s.hand + 1) (length s.drafts)) (s.hand + 1) s.hand)

abbrev pub answer_on : Session → DisplayAction
answer_on s = redraw_if (nat_lt (s.hand + 1) (length s.drafts))

-- the texts of the last readable lines
abbrev pub remembered_texts : (history : List ℕ) → List (List ℕ)
remembered_texts history = map loaded (last_of most_remembered (readable_lines history))

-- a text that is remembered has its place at the end, and is shown from its start
abbrev pub remembered : (text : List ℕ) → Draft
remembered text = draft (line text (length text)) 0

-- the remembered texts, and then an empty draft, in hand
abbrev pub opened : (texts : List (List ℕ)) → Session
opened texts = session (map remembered texts ++ empty_draft ∷ []) (length texts)

abbrev pub open_answer : (history : List ℕ) → Result Session Refusal
open_answer history = cond (nat_le (length history) longest_history) (Ok (opened (remembered_texts history))) (Err HistoryTooLong)

-- an answer, told by what the history in it means
abbrev pub told : Result PromptHistory Refusal → Result Session Refusal
told (Ok h) = Ok (session_of h)
told (Err refusal) = Err refusal

-- one of at most 32 drafts is in hand, and each of them is a draft
pub record SoundSession (s : Session) : Type 0 where
  pub hand_within : s.hand < length s.drafts
  pub few_enough : length s.drafts ≤ most_drafts
  pub drafts_are_sound : AllByRecursion Sound s.drafts

abbrev pub SessionsAreSound : Type 0
SessionsAreSound = (h : PromptHistory) → SoundSession (session_of h)
