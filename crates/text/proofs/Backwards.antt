-- Back past what passes a test: as many places as the front, read from its end, begins with.
use Rattle.std.proofs.Common.{◌≡◌, ℕ, zero, suc, ◌-◌, ◌<◌, ◌≤◌, Bool, true, false, List, [], ◌∷◌, length, take, reverse, get_or, ap, ◌∙◌, arith, ⊎_elim}
use Rattle.std.specs.List.{prefix_len}
use Rattle.std.proofs.lemmas.Bool.{cases_Bool}
use Rattle.std.proofs.lemmas.List.{reverse-append}
use Rattle.std.proofs.Math.Seq.{take-suc}
use Rattle.text.specs.Walks.{back_past}

last_first : (text : List ℕ) (n : ℕ) → n < length text → reverse (take (suc n) text) ≡ get_or text n 0 ∷ reverse (take n text)
last_first text n h = ap reverse (take-suc text n 0 h) ∙ reverse-append (take n text) (get_or text n 0 ∷ [])

pub back_past_is : (test : ℕ → Bool) (text : List ℕ) (place : ℕ) → place ≤ length text → back_past test text place ≡ place - prefix_len test (reverse (take place text))
back_past_is test text zero h = omega arith
back_past_is test text (suc n) h =
    let e = last_first text n (omega arith) in
    ⊎_elim
    (λ (t : test (get_or text n 0) ≡ true). rw (e, t) (back_past_is test text n (omega arith) ∙ omega arith))
    (λ (f : test (get_or text n 0) ≡ false). rw (e, f) (omega arith))
    (cases_Bool (test (get_or text n 0)))
