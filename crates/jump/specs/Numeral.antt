-- Numerals: an optional sign, then decimal digits. What integer one stands for, and where a text stops being one.
use Rattle.std.specs.Prelude.{ℕ, zero, suc, ◌+◌, ◌-◌, ◌*◌, ◌^◌, Bool, cond, ◌&&◌, ◌||◌, List, [], ◌∷◌, length, take, ℤ, pos, neg_ℤ, Some, None, Ok, Err, Option, Result, ◌==◌, nat_le, slice_index}
use Rattle.text.specs.declared.refusal.Refusal.{Refusal}
use Rattle.text.specs.declared.refusal.Refusal.TheVariants.{EmptyNumber, InvalidDigit, PosOverflow, NegOverflow}
use Rattle.jump.specs.declared.number.Sign.{Sign}
use Rattle.jump.specs.declared.number.Sign.TheVariants.{Plus, Minus}

abbrev pub is_digit : ℕ → Bool
is_digit c = nat_le 0x30 c && nat_le c 0x39

-- The number that digits write: each weighs ten times as much as the next.
abbrev pub value : List ℕ → ℕ
value [] = 0
value (c ∷ cs) = (c - 0x30) * 10 ^ length cs + value cs

abbrev pub sign_of : List ℕ → Sign
sign_of [] = Plus
sign_of (c ∷ cs) = cond (c == 0x2D) Minus Plus

-- What follows the sign, where there is one: + and - are signs.
abbrev pub after_sign : List ℕ → List ℕ
after_sign [] = []
after_sign (c ∷ cs) = cond (c == 0x2B || c == 0x2D) cs (c ∷ cs)

abbrev pub signed : Sign → ℕ → ℤ
signed Plus n = pos n
signed Minus n = neg_ℤ (pos n)

-- The largest number that may follow each sign: a number lies from -2^63 to 2^63 - 1.
abbrev pub limit : Sign → ℕ
limit Plus = 2 ^ 63 - 1
limit Minus = 2 ^ 63

abbrev pub passed : Sign → Refusal
passed Plus = PosOverflow
passed Minus = NegOverflow

-- A number with one character more on the right.
abbrev pub one_more : Sign → (n c : ℕ) → Result ℕ Refusal
one_more s n c =
    cond (is_digit c)
    (cond (nat_le (10 * n + (c - 0x30)) (limit s)) (Ok (10 * n + (c - 0x30))) (Err (passed s)))
    (Err InvalidDigit)

-- What is wrong at the character at i, if all before it are digits: it is no digit, or with it the digits so far pass the limit.
abbrev pub fault_at : Sign → List ℕ → ℕ → Option Refusal
fault_at s cs i =
    cond (is_digit (slice_index cs i))
    (cond (nat_le (value (take (suc i) cs)) (limit s)) None (Some (passed s)))
    (Some InvalidDigit)

-- The first of two findings.
abbrev pub or_else : Option Refusal → Option Refusal → Option Refusal
or_else None later = later
or_else (Some f) later = Some f

-- The leftmost fault among the first n characters.
abbrev pub first_fault : Sign → List ℕ → (n : ℕ) → Option Refusal
first_fault s cs zero = None
first_fault s cs (suc n) = or_else (first_fault s cs n) (fault_at s cs n)

abbrev pub unless_faulty : {A : Type 0} → Option Refusal → A → Result A Refusal
unless_faulty None a = Ok a
unless_faulty (Some f) a = Err f

-- The number that digits after a sign write, or their first fault.
abbrev pub digits_read : Sign → List ℕ → Result ℕ Refusal
digits_read s cs = unless_faulty (first_fault s cs (length cs)) (value cs)

abbrev pub with_sign : Sign → Result ℕ Refusal → Result ℤ Refusal
with_sign s (Ok n) = Ok (signed s n)
with_sign s (Err f) = Err f

-- A sign with nothing after it is as bad as a character that is no digit.
abbrev pub after_sign_read : Sign → List ℕ → Result ℤ Refusal
after_sign_read s [] = Err InvalidDigit
after_sign_read s (c ∷ cs) = with_sign s (digits_read s (c ∷ cs))

-- The integer that a text stands for. No character at all is a fault of its own.
abbrev pub number_read : List ℕ → Result ℤ Refusal
number_read [] = Err EmptyNumber
number_read (c ∷ cs) = after_sign_read (sign_of (c ∷ cs)) (after_sign (c ∷ cs))
