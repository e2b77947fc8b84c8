-- The laws of the jump.
use Rattle.std.proofs.Common.{◌≡◌, ℕ, zero, suc, ◌+◌, ◌-◌, ◌*◌, ◌/◌, ◌<◌, ◌≤◌, Bool, true, false, cond, ◌&&◌, ◌||◌, eqb, ltb, leb, List, [], ◌∷◌, length, get_or, take, ℤ, pos, negsuc, Some, None, Ok, Err, Option, Result, refl, ap, ◌∙◌, subst, inl, inr, add-zero, mul-le-mul_right, arith}
use native.Mathlib.Nat.{div-le_of_le-mul}
use Rattle.std.proofs.lemmas.List.{take_all}
use Rattle.std.proofs.lemmas.Bool.{leb-true, le-leb, eqb-true, cases_eq, cond_both}
use Rattle.std.proofs.lemmas.Bool.Decides.{nat_tests}
use Rattle.text.specs.declared.refusal.Refusal.{Refusal}
use Rattle.jump.specs.declared.number.Sign.{Sign}
use Rattle.jump.specs.declared.number.Sign.TheVariants.{Plus, Minus}
use Rattle.jump.specs.declared.goto.Jump.{Jump}
use Rattle.jump.specs.declared.goto.Jump.TheVariants.{Quit, Stay, Line}
use Rattle.jump.specs.Numeral.{is_digit, value, limit, signed, fault_at, first_fault, or_else, unless_faulty, with_sign, after_sign_read, number_read}
use Rattle.jump.specs.Goto.{line_at, line_at_percent, percent_held, to_line, ends_in_percent, target_of, goto_text, goes_to, most_lines}
use Rattle.jump.specs.Laws.{Spelled, Numeral, ReadsJustNumerals, StaysInTheListing, TenLines}
use Rattle.jump.proofs.Faults.{value_more}

pub ten_lines : TenLines
ten_lines =
    record {
      first_from_the_end = refl;
      last_but_one = refl;
      quarter_from_the_end = refl;
      past_the_end = refl;
      quitting = refl;
      staying = refl;
    }

-- Digits before others are worth no more than all of them.
value_grows : (cs : List ℕ) (i k : ℕ) → i + k ≤ length cs → value (take i cs) ≤ value (take (i + k) cs)
value_grows cs i zero h = rw add-zero (omega arith)
value_grows cs i (suc k) h =
    let before = value_grows cs i k (omega arith) in
    let more = value_more cs (i + k) (omega arith) in
    let next : i + suc k ≡ i + k + 1 = omega arith in
    rw next (omega (arith, before, more))

value_of_front : (cs : List ℕ) (n : ℕ) → n ≤ length cs → value (take n cs) ≤ value cs
value_of_front cs n h =
    let all : take (n + (length cs - n)) cs ≡ cs = take_all _ cs (omega arith) in
    rw all at (value_grows cs n (length cs - n) (omega arith))

OnlyDigits : List ℕ → Type 0
OnlyDigits cs = (i : ℕ) → i < length cs → is_digit (get_or cs i 0) ≡ true

no_fault_at : (s : Sign) (cs : List ℕ) → OnlyDigits cs → value cs ≤ limit s → (i : ℕ) → i < length cs → fault_at s cs i ≡ None
unfolding OnlyDigits
no_fault_at s cs only fits i h =
    let front = value_of_front cs (suc i) h in
    rw (only i h, le-leb (value (take (suc i) cs)) (limit s) (omega (arith, front)))

no_fault : (s : Sign) (cs : List ℕ) → OnlyDigits cs → value cs ≤ limit s → (n : ℕ) → n ≤ length cs → first_fault s cs n ≡ None
no_fault s cs only fits zero h = refl
no_fault s cs only fits (suc n) h = rw (no_fault s cs only fits n (omega arith)) (no_fault_at s cs only fits n h)

digits_are_read : (s : Sign) (cs : List ℕ) → 1 ≤ length cs → OnlyDigits cs → value cs ≤ limit s → after_sign_read s cs ≡ Ok (signed s (value cs))
digits_are_read s [] some only fits = absurd (omega arith)
digits_are_read s (c ∷ cs) some only fits = rw (no_fault s (c ∷ cs) only fits (length (c ∷ cs)) (omega arith))

-- A text whose first character is a digit has no sign.
unsigned_read : (cs : List ℕ) → 1 ≤ length cs → OnlyDigits cs → number_read cs ≡ after_sign_read Plus cs
unfolding OnlyDigits
unsigned_read [] some only = absurd (omega arith)
unsigned_read (c ∷ cs) some only =
    let digit : is_digit c ≡ true = only 0 (omega arith) in
    let no_plus : eqb c 0x2B ≡ false = grind (arith, nat_tests) in
    let no_minus : eqb c 0x2D ≡ false = grind (arith, nat_tests) in
    rw (no_plus, no_minus)

numeral_is_read : (text cs : List ℕ) (s : Sign) → Spelled s cs text → 1 ≤ length cs → OnlyDigits cs → value cs ≤ limit s → number_read text ≡ Ok (signed s (value cs))
numeral_is_read text cs Plus (inl same) some only fits = rw same (unsigned_read cs some only ∙ digits_are_read Plus cs some only fits)
numeral_is_read text cs Plus (inr plus) some only fits = rw plus (digits_are_read Plus cs some only fits)
numeral_is_read text cs Minus minus some only fits = rw minus (digits_are_read Minus cs some only fits)

neither : (a b : Option Refusal) → or_else a b ≡ None → (a ≡ None) × (b ≡ None)
neither None b e = (refl, e)
neither (Some f) b e = let clash : ◌≡◌ {A = ℕ} 0 1 = cc in absurd (omega arith)

-- Where no fault was found, there is none at any place.
none_at : (s : Sign) (cs : List ℕ) (n i : ℕ) → first_fault s cs n ≡ None → i < n → fault_at s cs i ≡ None
none_at s cs zero i e h = absurd (omega arith)
none_at s cs (suc n) i e h =
    let both = neither (first_fault s cs n) (fault_at s cs n) e in
    elim (cases_eq i n) [
      | inl same ↦ rw same both.1
      | inr other ↦ none_at s cs n i both.0 (omega arith)
    ]

-- No fault: a digit stands there, and the number so far keeps within the limit.
sound_at : (digit fits : Bool) (p q : Refusal) → cond digit (cond fits None (Some p)) (Some q) ≡ None → (digit ≡ true) × (fits ≡ true)
sound_at true true p q e = (refl, refl)
sound_at true false p q e = let clash : ◌≡◌ {A = ℕ} 0 1 = cc in absurd (omega arith)
sound_at false fits p q e = let clash : ◌≡◌ {A = ℕ} 0 1 = cc in absurd (omega arith)

record Read (s : Sign) (cs : List ℕ) (z : ℤ) : Type 0 where
  some_digit : 1 ≤ length cs
  only_digits : (i : ℕ) → i < length cs → is_digit (get_or cs i 0) ≡ true
  within_limit : value cs ≤ limit s
  stands_for : z ≡ signed s (value cs)

what_was_read : (s : Sign) (c : ℕ) (cs : List ℕ) (z : ℤ) (found : Option Refusal) → first_fault s (c ∷ cs) (length (c ∷ cs)) ≡ found
    → with_sign s (unless_faulty found (value (c ∷ cs))) ≡ Ok z → Read s (c ∷ cs) z
what_was_read s c cs z (Some f) here e = let clash : ◌≡◌ {A = ℕ} 0 1 = cc in absurd (omega arith)
what_was_read s c cs z None here e =
    let each : (i : ℕ) → i < length (c ∷ cs) → (is_digit (get_or (c ∷ cs) i 0) ≡ true) × (leb (value (take (suc i) (c ∷ cs))) (limit s) ≡ true) = λ i h. sound_at _ _ _ _ (none_at s (c ∷ cs) (length (c ∷ cs)) i here h) in
    let all : take (suc (length cs)) (c ∷ cs) ≡ c ∷ cs = take_all (suc (length cs)) (c ∷ cs) (omega arith) in
    let last : leb (value (take (suc (length cs)) (c ∷ cs))) (limit s) ≡ true = (each (length cs) (omega arith)).1 in
    record {
      some_digit = omega arith;
      only_digits = λ i h. (each i h).0;
      within_limit = leb-true (value (c ∷ cs)) (limit s) (subst (λ (ds : List ℕ). leb (value ds) (limit s) ≡ true) all last);
      stands_for = cc;
    }

after_sign_was_read : (s : Sign) (cs : List ℕ) (z : ℤ) → after_sign_read s cs ≡ Ok z → Read s cs z
after_sign_was_read s [] z e = let clash : ◌≡◌ {A = ℕ} 0 1 = cc in absurd (omega arith)
after_sign_was_read s (c ∷ cs) z e = what_was_read s c cs z (first_fault s (c ∷ cs) (length (c ∷ cs))) refl e

numeral : {s : Sign} {cs : List ℕ} {z : ℤ} (text : List ℕ) → Spelled s cs text → Read s cs z → Numeral text z
numeral {s} {cs} text spelled r =
    record {
      sign = s;
      digits = cs;
      spelled = spelled;
      some_digit = r.some_digit;
      only_digits = r.only_digits;
      within_limit = r.within_limit;
      stands_for = r.stands_for;
    }

-- By the first character: a plus, a minus or neither.
by_sign : (c : ℕ) (cs : List ℕ) (z : ℤ) (plus minus : Bool) → eqb c 0x2B ≡ plus → eqb c 0x2D ≡ minus
    → after_sign_read (cond minus Minus Plus) (cond (plus || minus) cs (c ∷ cs)) ≡ Ok z → Numeral (c ∷ cs) z
by_sign c cs z true true p m e = absurd (omega (arith, eqb-true c 0x2B p, eqb-true c 0x2D m))
by_sign c cs z true false p m e = numeral (c ∷ cs) (inr (ap (λ k. k ∷ cs) (eqb-true c 0x2B p))) (after_sign_was_read Plus cs z e)
by_sign c cs z false true p m e = numeral (c ∷ cs) (ap (λ k. k ∷ cs) (eqb-true c 0x2D m)) (after_sign_was_read Minus cs z e)
by_sign c cs z false false p m e = numeral (c ∷ cs) (inl refl) (after_sign_was_read Plus (c ∷ cs) z e)

read_is_numeral : (text : List ℕ) (z : ℤ) → number_read text ≡ Ok z → Numeral text z
read_is_numeral [] z e = let clash : ◌≡◌ {A = ℕ} 0 1 = cc in absurd (omega arith)
read_is_numeral (c ∷ cs) z e = by_sign c cs z (eqb c 0x2B) (eqb c 0x2D) refl refl e

pub reads_just_numerals : ReadsJustNumerals
unfolding OnlyDigits
reads_just_numerals text z = (
  (λ n. rw n.stands_for (numeral_is_read text n.digits n.sign n.spelled n.some_digit n.only_digits n.within_limit)),
  read_is_numeral text z,
)

percent_within : (p m : ℕ) → p ≤ 100 → p * m / 100 ≤ m
percent_within p m h = div-le_of_le-mul 100 (mul-le-mul_right m h)

-- What a jump leads to lies in the listing.
Inside : ℕ → Result Jump Refusal → Type 0
Inside lines (Err f) = Unit {0}
Inside lines (Ok Quit) = Unit {0}
Inside lines (Ok Stay) = Unit {0}
Inside lines (Ok (Line k)) = k < lines

held_within : (p : ℤ) → percent_held p ≤ 100
held_within (pos n) = omega arith
held_within (negsuc n) = omega arith

line_inside : (n : ℤ) (lines : ℕ) → 0 < lines → line_at n lines < lines
line_inside (pos n) lines some = omega arith
line_inside (negsuc n) lines some = omega arith

percent_inside : (p : ℤ) (lines : ℕ) → 0 < lines → line_at_percent p lines < lines
percent_inside p lines some = omega (arith, percent_within (percent_held p) (lines - 1) (held_within p))

reached_inside : (at : ℤ → ℕ → ℕ) (lines : ℕ) (read : Result ℤ Refusal) → ((n : ℤ) → 0 < lines → at n lines < lines) → Inside lines (to_line at lines read)
unfolding Inside
reached_inside at lines (Err f) each = tt
reached_inside at lines (Ok n) each = cond_both (eqb lines 0) _ _ (Inside lines) (λ none. tt) (λ some. each n (grind (arith, nat_tests)))

goes_inside : (text : List ℕ) (lines : ℕ) → Inside lines (goes_to text lines)
unfolding Inside
goes_inside text lines = cond_both (ltb most_lines lines) _ _ (Inside lines) (λ long. tt) (λ short. typed text)
  where
    target : (t : List ℕ) → Inside lines (target_of t lines)
    target t = cond_both (ends_in_percent t) _ _ (Inside lines) (λ p. reached_inside line_at_percent lines _ (λ n. percent_inside n lines)) (λ p. reached_inside line_at lines _ (λ n. line_inside n lines))

    typed : (t : List ℕ) → Inside lines (goto_text t lines)
    typed [] = tt
    typed (c ∷ cs) = cond_both (eqb c 0x71 && eqb (length cs) 0) _ _ (Inside lines) (λ q. tt) (λ q. target (c ∷ cs))

pub stays_in_the_listing : StaysInTheListing
unfolding Inside
stays_in_the_listing text lines line e = rw e at (goes_inside text lines)
