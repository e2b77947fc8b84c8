-- A walk over a word goes as far as it can.
use Rattle.std.proofs.Common.{◌≡◌, ℕ, zero, suc, ◌+◌, ◌-◌, ◌<◌, ◌≤◌, Bool, true, false, not, List, [], ◌∷◌, length, get_or, drop, sym, subst, ⊎_elim, arith}
use Rattle.std.specs.List.{prefix_len}
use Rattle.std.proofs.lemmas.List.{get_or-drop, length-drop}
use Rattle.std.proofs.lemmas.List.Sums.{prefix_len-le-length}
use Rattle.std.proofs.lemmas.Bool.{cases_lt, cases_Bool, both_ways}
use Rattle.text.specs.Walks.{on_past, back_past}
use Rattle.draft.specs.Words.{word_end, word_start}
use Rattle.draft.specs.Walks.{AllPass, WalkOn, WalkBack, WordEndIsFurthest, WordStartIsFurthest}

module _ (test : ℕ → Bool) where
  leading_pass : (xs : List ℕ) (k : ℕ) → k < prefix_len test xs → test (get_or xs k 0) ≡ true
  leading_pass [] k h = absurd (omega arith)
  leading_pass (x ∷ xs) zero h =
      ⊎_elim
      (λ (t : test x ≡ true). t)
      (λ (f : test x ≡ false). let none : prefix_len test (x ∷ xs) ≡ 0 = rw f in absurd (omega arith))
      (cases_Bool (test x))
  leading_pass (x ∷ xs) (suc k) h =
      ⊎_elim
      (λ (t : test x ≡ true). let more : prefix_len test (x ∷ xs) ≡ 1 + prefix_len test xs = rw t in leading_pass xs k (omega arith))
      (λ (f : test x ≡ false). let none : prefix_len test (x ∷ xs) ≡ 0 = rw f in absurd (omega arith))
      (cases_Bool (test x))

  leading_stops : (xs : List ℕ) → prefix_len test xs < length xs → test (get_or xs (prefix_len test xs) 0) ≡ false
  leading_stops [] h = absurd (omega arith)
  leading_stops (x ∷ xs) h =
      ⊎_elim
      (λ (t : test x ≡ true).
      let more : prefix_len test (x ∷ xs) ≡ suc (prefix_len test xs) = rw t (omega arith) in
      subst (λ (n : ℕ). test (get_or (x ∷ xs) n 0) ≡ false) (sym more) (leading_stops xs (omega arith)))
      (λ (f : test x ≡ false).
      let none : prefix_len test (x ∷ xs) ≡ 0 = rw f in
      subst (λ (n : ℕ). test (get_or (x ∷ xs) n 0) ≡ false) (sym none) f)
      (cases_Bool (test x))

  module _ (text : List ℕ) where
    pub on_past_passes : (place : ℕ) → AllPass test text place (on_past test text place)
    on_past_passes place k h u =
        let e : place + (k - place) ≡ k = omega arith in
        let pass = leading_pass (drop place text) (k - place) (omega arith) in
        subst (λ (n : ℕ). test (get_or text n 0) ≡ true) e (rw get_or-drop at pass)

    pub on_past_stops_at : (place : ℕ) → place ≤ length text → on_past test text place < length text → test (get_or text (on_past test text place) 0) ≡ false
    on_past_stops_at place w h =
        let size = length-drop place text in
        let stop = leading_stops (drop place text) (omega arith) in
        rw get_or-drop at stop

    pub on_past_within : (place : ℕ) → place ≤ length text → on_past test text place ≤ length text
    on_past_within place h = omega (arith, prefix_len-le-length test (drop place text), length-drop place text)

    pub back_past_within : (place : ℕ) → back_past test text place ≤ place
    back_past_within zero = omega arith
    back_past_within (suc place) =
        ⊎_elim
        (λ (t : test (get_or text place 0) ≡ true). let b = back_past_within place in rw t (omega arith))
        (λ (f : test (get_or text place 0) ≡ false). rw f (omega arith))
        (cases_Bool (test (get_or text place 0)))

    pub back_past_passes : (place : ℕ) → AllPass test text (back_past test text place) place
    back_past_passes zero k h u = absurd (omega arith)
    back_past_passes (suc place) k h u =
        ⊎_elim
        (λ (t : test (get_or text place 0) ≡ true).
        let same : back_past test text (suc place) ≡ back_past test text place = rw t in
        ⊎_elim
        (λ (b : k < place). back_past_passes place k (omega arith) b)
        (λ (b : place ≤ k). let e : place ≡ k = omega arith in subst (λ (n : ℕ). test (get_or text n 0) ≡ true) e t)
        (cases_lt k place))
        (λ (f : test (get_or text place 0) ≡ false). let same : back_past test text (suc place) ≡ suc place = rw f in absurd (omega arith))
        (cases_Bool (test (get_or text place 0)))

    pub back_past_stops_at : (place : ℕ) → 0 < back_past test text place → test (get_or text (back_past test text place - 1) 0) ≡ false
    back_past_stops_at zero h = absurd (omega arith)
    back_past_stops_at (suc place) h =
        ⊎_elim
        (λ (t : test (get_or text place 0) ≡ true).
        let same : back_past test text (suc place) ≡ back_past test text place = rw t in
        subst (λ (n : ℕ). test (get_or text (n - 1) 0) ≡ false) (sym same) (back_past_stops_at place (omega arith)))
        (λ (f : test (get_or text place 0) ≡ false).
        let here : place ≡ back_past test text (suc place) - 1 = rw f (omega arith) in
        subst (λ (n : ℕ). test (get_or text n 0) ≡ false) here f)
        (cases_Bool (test (get_or text place 0)))

module _ (separates : ℕ → Bool) (text : List ℕ) where
  abbrev others : ℕ → Bool
  others c = not (separates c)

  -- where two walks disagree on a character, the longer one is none
  up_to : (test : ℕ → Bool) (m n k : ℕ) → (n < m → test (get_or text k 0) ≡ false) → (n < m → test (get_or text k 0) ≡ true) → m ≤ n
  up_to test m n k stops passes =
      ⊎_elim (λ (h : n < m). absurd (both_ways (test (get_or text k 0)) (stops h) (passes h))) (λ (h : m ≤ n). h) (cases_lt n m)

  walks_on : (place : ℕ) → place ≤ length text → WalkOn separates text place (on_past separates text place) (word_end separates text place)
  walks_on place h =
      let turn = on_past separates text place in
      let within = on_past_within separates text place h in
      record {
        goes_on = (omega arith, omega arith, on_past_within others text turn within);
        separators_first = on_past_passes separates text place;
        then_a_word = on_past_passes others text turn;
      }

  none_goes_further_on : (place : ℕ) → place ≤ length text → (turn to : ℕ) → WalkOn separates text place turn to → to ≤ word_end separates text place
  none_goes_further_on place h turn to w =
      let mid = on_past separates text place in
      let end = word_end separates text place in
      let within = on_past_within separates text place h in
      let order = w.goes_on in
      let first : turn ≤ mid = up_to separates turn mid mid
      (λ d. on_past_stops_at separates text place h (omega arith))
      (λ d. w.separators_first mid (omega arith) d) in
      up_to others to end end
      (λ d. on_past_stops_at others text mid within (omega arith))
      (λ d. w.then_a_word end (omega arith) d)

  walks_back : (place : ℕ) → WalkBack separates text place (back_past separates text place) (word_start separates text place)
  walks_back place =
      let turn = back_past separates text place in
      record {
        goes_back = (back_past_within others text turn, back_past_within separates text place);
        separators_first = back_past_passes separates text place;
        then_a_word = back_past_passes others text turn;
      }

  none_goes_further_back : (place turn to : ℕ) → WalkBack separates text place turn to → word_start separates text place ≤ to
  none_goes_further_back place turn to w =
      let mid = back_past separates text place in
      let start = word_start separates text place in
      let below = back_past_within separates text place in
      let lower = back_past_within others text mid in
      let order = w.goes_back in
      let first : mid ≤ turn = up_to separates mid turn (mid - 1)
      (λ d. back_past_stops_at separates text place (omega arith))
      (λ d. w.separators_first (mid - 1) (omega arith) (omega arith)) in
      up_to others start to (start - 1)
      (λ d. back_past_stops_at others text mid (omega arith))
      (λ d. w.then_a_word (start - 1) (omega arith) (omega arith))

pub word_end_is_furthest : WordEndIsFurthest
word_end_is_furthest separates text place h =
    ((on_past separates text place, walks_on separates text place h), none_goes_further_on separates text place h)

pub word_start_is_furthest : WordStartIsFurthest
word_start_is_furthest separates text place h =
    ((back_past separates text place, walks_back separates text place), none_goes_further_back separates text place)
