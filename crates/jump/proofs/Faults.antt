-- The steps of reading digits from the left: the value so far, and the first fault so far.
use Rattle.std.proofs.Common.{◌≡◌, ℕ, zero, suc, ◌+◌, ◌-◌, ◌*◌, ◌^◌, ◌<◌, ◌≤◌, Bool, true, false, cond, leb, List, [], ◌∷◌, ◌++◌, length, get_or, take, Some, None, Ok, Err, Result, refl, ◌∙◌, inl, inr, mul_assoc, pow-suc, add-one, arith, MatchResult}
use Rattle.std.proofs.lemmas.List.{length_push, take_more}
use Rattle.std.proofs.lemmas.Bool.{cases_eq}
use Rattle.text.specs.declared.refusal.Refusal.{Refusal}
use Rattle.text.specs.declared.refusal.Refusal.TheVariants.{InvalidDigit}
use Rattle.jump.specs.declared.number.Sign.{Sign}
use Rattle.jump.specs.Numeral.{value, is_digit, limit, passed, one_more, fault_at, first_fault, digits_read}

pub value_push : (cs : List ℕ) (c : ℕ) → value (cs ++ (c ∷ [])) ≡ 10 * value cs + (c - 0x30)
value_push [] c = omega arith
value_push (d ∷ cs) c =
    let weight : (d - 0x30) * 10 ^ length (cs ++ (c ∷ [])) ≡ (d - 0x30) * 10 ^ length cs * 10 = rw (length_push cs c, add-one, pow-suc, mul_assoc) in
    omega (arith, weight, value_push cs c)

pub value_more : (cs : List ℕ) (i : ℕ) → i < length cs → value (take (i + 1) cs) ≡ 10 * value (take i cs) + (get_or cs i 0 - 0x30)
value_more cs i h = rw (take_more cs i 0 h) (value_push (take i cs) (get_or cs i 0))

-- A fault that was found is the first one, however far the reading goes on.
pub first_fault_stays : (s : Sign) (cs : List ℕ) (f : Refusal) (m n : ℕ) → m ≤ n → first_fault s cs m ≡ Some f → first_fault s cs n ≡ Some f
first_fault_stays s cs f m zero h e = let same : m ≡ 0 = omega arith in rw same at e
first_fault_stays s cs f m (suc n) h e =
    elim (cases_eq m (suc n)) [
      | inl same ↦ rw same at e
      | inr other ↦ rw (first_fault_stays s cs f m n (omega arith) e)
    ]

-- Reading one character more, when there was no fault before it.
pub first_fault_more : (s : Sign) (cs : List ℕ) (i : ℕ) → first_fault s cs i ≡ None → first_fault s cs (i + 1) ≡ fault_at s cs i
first_fault_more s cs i e = rw (add-one, e)

-- The two tests that a character has to pass, as a reader meets them and as faults are told.
by_tests : (digit fits : Bool) (n : ℕ) (p : Refusal) (r : Result ℕ Refusal)
    → r ≡ cond digit (cond fits (Ok n) (Err p)) (Err InvalidDigit)
    → MatchResult r (λ m. (cond digit (cond fits None (Some p)) (Some InvalidDigit) ≡ None) × (m ≡ n) × (fits ≡ true)) (λ f. cond digit (cond fits None (Some p)) (Some InvalidDigit) ≡ Some f)
by_tests true true n p r e = rw e (refl, refl, refl)
by_tests true false n p r e = rw e refl
by_tests false fits n p r e = rw e refl

-- One character more: there is no fault at it and the value grows by it, or it is where the fault is.
pub read_more : (s : Sign) (cs : List ℕ) (i : ℕ) (r : Result ℕ Refusal) → i < length cs → r ≡ one_more s (value (take i cs)) (get_or cs i 0)
    → MatchResult r (λ n. (fault_at s cs i ≡ None) × (n ≡ value (take (i + 1) cs)) × (leb (value (take (i + 1) cs)) (limit s) ≡ true)) (λ f. fault_at s cs i ≡ Some f)
read_more s cs i r h e =
    rw (add-one, (rw add-one at (value_more cs i h)))
    (by_tests (is_digit (get_or cs i 0)) (leb (10 * value (take i cs) + (get_or cs i 0 - 0x30)) (limit s)) (10 * value (take i cs) + (get_or cs i 0 - 0x30)) (passed s) r e)

-- The reading stops at the first fault.
pub stops_reading : (s : Sign) (cs : List ℕ) (i : ℕ) (f : Refusal) → i < length cs → first_fault s cs i ≡ None → fault_at s cs i ≡ Some f → digits_read s cs ≡ Err f
stops_reading s cs i f h none here =
    rw (first_fault_stays s cs f (i + 1) (length cs) (omega arith) (first_fault_more s cs i none ∙ here))
