-- Sequences of UTF-8 at the front of bytes, and what they are encodings of.
use Rattle.std.proofs.Common.{◌≡◌, ℕ, zero, suc, ◌+◌, ◌-◌, ◌*◌, ◌/◌, ◌%◌, ◌<◌, ◌≤◌, true, ◌⊎◌, List, [], ◌∷◌, ◌++◌, length, get_or, take, drop, sym, refl, ap, ◌∙◌, subst, inl, inr, add-zero, arith, drop-cons}
use lib.Utf8.{scalar, encode, low_scalar, scalar_cases}
use Rattle.std.proofs.lemmas.List.{take_rest}
use Rattle.std.proofs.lemmas.Bool.{cond_above, cond_below, cases_lt}
use Rattle.std.proofs.lemmas.Str.{encode_ascii, encode_same}
use Rattle.std.proofs.lemmas.Bool.Decides.{nat_tests}
use Rattle.text.specs.Utf8.{Pair, Triple, Quad, Sequence, single, pair, triple, quad, Begins}

-- The n bytes from place k on, one by one.
abbrev bytes_from : (k n : ℕ) → List ℕ → List ℕ
bytes_from k zero l = []
bytes_from k (suc n) l = get_or l k 0 ∷ bytes_from (suc k) n l

from_place : (n k : ℕ) (l : List ℕ) → k + n ≤ length l → drop k l ≡ bytes_from k n l ++ drop (k + n) l
from_place zero k l h = rw add-zero
from_place (suc n) k l h =
    let at-k : k < length l = omega arith in
    let on : suc k + n ≡ k + suc n = omega arith in
    drop-cons l k 0 at-k ∙ ap (λ r. get_or l k 0 ∷ r) (rw on at (from_place n (suc k) l (omega arith)))

pub front_and_rest : (n : ℕ) (l : List ℕ) → n ≤ length l → l ≡ bytes_from 0 n l ++ take (length l - n) (drop n l)
front_and_rest n l h =
    let start : 0 + n ≡ n = omega arith in
    let within : 0 + n ≤ length l = omega arith in
    rw take_rest (rw start at (from_place n 0 l within))

-- What `encode` gives by the number of bytes, at bytes that hold the value's bits.
pub two_bytes : (c a b : ℕ) → 0x80 ≤ c → c < 0x800 → a ≡ 192 + c / 64 → b ≡ 128 + c % 64 → a ∷ b ∷ [] ≡ encode c
unfolding encode
two_bytes c a b l h first second = (λ i. first i ∷ second i ∷ []) ∙ cond_above c 128 _ _ _ l (cond_below c 2048 _ _ h)

pub three_bytes : (c a b d : ℕ) → 0x800 ≤ c → c < 0x10000 → a ≡ 224 + c / 4096 → b ≡ 128 + c / 64 % 64 → d ≡ 128 + c % 64 → a ∷ b ∷ d ∷ [] ≡ encode c
unfolding encode
three_bytes c a b d l h first second third =
    (λ i. first i ∷ second i ∷ third i ∷ []) ∙ cond_above c 128 _ _ _ (omega arith) (cond_above c 2048 _ _ _ l (cond_below c 65536 _ _ h))

pub four_bytes : (c a b d e : ℕ) → 0x10000 ≤ c → a ≡ 240 + c / 262144 → b ≡ 128 + c / 4096 % 64 → d ≡ 128 + c / 64 % 64 → e ≡ 128 + c % 64 → a ∷ b ∷ d ∷ e ∷ [] ≡ encode c
unfolding encode
four_bytes c a b d e l first second third fourth =
    (λ i. first i ∷ second i ∷ third i ∷ fourth i ∷ [])
    ∙ cond_above c 128 _ _ _ (omega arith) (cond_above c 2048 _ _ _ (omega arith) (cond_above c 65536 _ _ _ l refl))

scalar_from_ranges : (c : ℕ) → (c < 0xD800) ⊎ ((0xE000 ≤ c) × (c < 0x110000)) → scalar c ≡ true
scalar_from_ranges c h = grind (arith, nat_tests)

pair_encodes : (c a b : ℕ) → Pair a b → c ≡ (a - 0xC0) * 64 + (b - 0x80) → (scalar c ≡ true) × (a ∷ b ∷ [] ≡ encode c)
pair_encodes c a b h e = (low_scalar c (omega arith), two_bytes c a b (omega arith) (omega arith) (omega arith) (omega arith))

triple_encodes : (c a b d : ℕ) → Triple a b d → c ≡ (a - 0xE0) * 4096 + (b - 0x80) * 64 + (d - 0x80) → (scalar c ≡ true) × (a ∷ b ∷ d ∷ [] ≡ encode c)
triple_encodes c a b d h e =
    (scalar_from_ranges c (grind arith), three_bytes c a b d (omega arith) (omega arith) (omega arith) (omega arith) (omega arith))

quad_encodes : (c a b d e : ℕ) → Quad a b d e → c ≡ (a - 0xF0) * 262144 + (b - 0x80) * 4096 + (d - 0x80) * 64 + (e - 0x80) → (scalar c ≡ true) × (a ∷ b ∷ d ∷ e ∷ [] ≡ encode c)
quad_encodes c a b d e h is =
    (scalar_from_ranges c (inr (omega arith, omega arith)), four_bytes c a b d e (omega arith) (omega arith) (omega arith) (omega arith) (omega arith))

-- A sequence is the encoding of the scalar value that it stands for ..
pub sequence_is_encoding : {s : List ℕ} {c : ℕ} → Sequence s c → (scalar c ≡ true) × (s ≡ encode c)
sequence_is_encoding (single {a = a} h) = (low_scalar a (omega arith), sym (encode_ascii a (omega arith)))
sequence_is_encoding (pair h) = pair_encodes _ _ _ h refl
sequence_is_encoding (triple h) = triple_encodes _ _ _ _ h refl
sequence_is_encoding (quad h) = quad_encodes _ _ _ _ _ h refl

same_sequence : {s t : List ℕ} {v c : ℕ} → s ≡ t → v ≡ c → Sequence s v → Sequence t c
same_sequence {s} {t} {v} {c} p q row = subst (λ u. Sequence u c) p (subst (λ w. Sequence s w) q row)

triple_of : (c : ℕ) → 0x800 ≤ c → c < 0x10000 → (c < 0xD800) ⊎ ((0xE000 ≤ c) × (c < 0x110000)) → Triple (224 + c / 4096) (128 + c / 64 % 64) (128 + c % 64)
triple_of c l h s = grind arith

quad_of : (c : ℕ) → 0x10000 ≤ c → c < 0x110000 → Quad (240 + c / 262144) (128 + c / 4096 % 64) (128 + c / 64 % 64) (128 + c % 64)
quad_of c l h = grind arith

-- .. and the encoding of a scalar value is a sequence that stands for it.
pub encoding_is_sequence : (c : ℕ) → scalar c ≡ true → Sequence (encode c) c
encoding_is_sequence c s = by (cases_lt c 0x80) (cases_lt c 0x800) (cases_lt c 0x10000)
  where
    by : (c < 0x80) ⊎ (0x80 ≤ c) → (c < 0x800) ⊎ (0x800 ≤ c) → (c < 0x10000) ⊎ (0x10000 ≤ c) → Sequence (encode c) c
    by (inl h) _ _ = same_sequence (sym (encode_ascii c h)) refl (single (omega arith))
    by (inr l) (inl h) _ = same_sequence (two_bytes c _ _ l h refl refl) (omega arith) (pair ((omega arith, omega arith), (omega arith, omega arith)))
    by (inr _) (inr l) (inl h) = same_sequence (three_bytes c _ _ _ l h refl refl refl) (omega arith) (triple (triple_of c l h (scalar_cases c s)))
    by (inr _) (inr _) (inr l) =
        let ranges = scalar_cases c s in
        let top : c < 0x110000 = omega arith in
        let bits : c / 262144 * 262144 + c / 4096 % 64 * 4096 + c / 64 % 64 * 64 + c % 64 ≡ c = omega arith in
        same_sequence (four_bytes c _ _ _ _ l refl refl refl refl) (omega arith) (quad (quad_of c l top))

-- Where two sequences begin the same bytes, they are one, and what follows is the same.
pub first_is_one : {s t : List ℕ} {c d : ℕ} (x y : List ℕ) → Sequence s c → Sequence t d → s ++ x ≡ t ++ y → (s ≡ t) × (c ≡ d) × (x ≡ y)
first_is_one {s} {t} {c} {d} x y row other e =
    let p = (sequence_is_encoding row).1 in
    let q = (sequence_is_encoding other).1 in
    let same : (c ≡ d) × (x ≡ y) = encode_same c d x y (ap (λ u. u ++ x) (sym p) ∙ e ∙ ap (λ u. u ++ y) q) in
    (p ∙ ap encode same.0 ∙ sym q, same.0, same.1)

pub one_beginning : (bytes : List ℕ) (c d : ℕ) (rest others : List ℕ) → Begins bytes c rest → Begins bytes d others → (c ≡ d) × (rest ≡ others)
one_beginning bytes c d rest others (s, row, e) (t, other, f) =
    let same = first_is_one rest others row other (sym e ∙ f) in
    (same.1, same.2)

pub sequence_not_empty : {s : List ℕ} {c : ℕ} → Sequence s c → 0 < length s
sequence_not_empty (single h) = omega arith
sequence_not_empty (pair h) = omega arith
sequence_not_empty (triple h) = omega arith
sequence_not_empty (quad h) = omega arith
