-- Labels: how long they are, and that they are made of characters that every font shows in one column.
use Rattle.std.proofs.Common.{◌≡◌, ℕ, zero, suc, ◌+◌, ◌/◌, ◌%◌, ◌<◌, ◌≤◌, true, false, cond, List, [], ◌∷◌, ◌++◌, length, take, refl, arith}
use lib.Utf8.{scalars}
use Rattle.std.proofs.ByRecursion.{All-push, All-take}
use Rattle.std.proofs.lemmas.List.{length_push}
use Rattle.std.proofs.lemmas.Bool.Decides.{nat_tests}
use Rattle.std.specs.List.{AllByRecursion}
use Rattle.text.specs.Hex.{hex_digit}
use Rattle.font.specs.Labels.{hex, hex_count, has_short_label, label, longest_label, Printable}

pub length_hex : (count n : ℕ) → length (hex count n) ≡ count
length_hex zero n = refl
length_hex (suc count) n =
    let one = length_push (hex count (n / 16)) (hex_digit (n % 16)) in
    let rest = length_hex count (n / 16) in
    omega arith

-- The two spellings.
abbrev short_label : ℕ → List ℕ
short_label c = 0x3C ∷ (hex 2 c ++ (0x3E ∷ []))

abbrev long_label : ℕ → List ℕ
long_label c = 0x3C ∷ 0x55 ∷ 0x2B ∷ (hex (hex_count c) c ++ (0x3E ∷ []))

-- A label's length, by the code that it spells.
pub length_label : (c : ℕ) → length (label c) ≡ cond (has_short_label c) 4 (4 + hex_count c)
length_label c =
    elim (has_short_label c) as (λ short. length (cond short (short_label c) (long_label c)) ≡ cond short 4 (4 + hex_count c)) [
      | true ↦ refl
      | false ↦ omega (arith, length_push (hex (hex_count c) c) 0x3E, length_hex (hex_count c) c)
    ]

pub label_bound : (c : ℕ) → (4 ≤ length (label c)) × (length (label c) ≤ longest_label)
label_bound c = let is = length_label c in grind (arith, nat_tests)

digit_printable : (d : ℕ) → d < 16 → Printable (hex_digit d)
digit_printable d h = grind (arith, nat_tests)

hex_printable : (count n : ℕ) → AllByRecursion Printable (hex count n)
hex_printable zero n = tt
hex_printable (suc count) n =
    All-push Printable (hex count (n / 16)) (hex_digit (n % 16)) (hex_printable count (n / 16)) (digit_printable (n % 16) (omega arith))

-- Every character of a label is one of 20 to 7E.
pub label_printable : (c : ℕ) → AllByRecursion Printable (label c)
label_printable c =
    let end : Printable 0x3E = (omega arith, omega arith) in
    elim (has_short_label c) as (λ short. AllByRecursion Printable (cond short (short_label c) (long_label c))) [
      | true ↦ ((omega arith, omega arith), All-push Printable (hex 2 c) 0x3E (hex_printable 2 c) end)
      | false ↦ ((omega arith, omega arith), ((omega arith, omega arith), ((omega arith, omega arith), All-push Printable (hex (hex_count c) c) 0x3E (hex_printable (hex_count c) c) end)))
    ]

pub printable_scalars : (text : List ℕ) → AllByRecursion Printable text → scalars text ≡ true
printable_scalars [] each = refl
printable_scalars (c ∷ cs) each = let rest = printable_scalars cs each.1 in grind (arith, nat_tests)

-- A label that is cut is a text of scalar values.
pub cut_label_scalars : (n c : ℕ) → scalars (take n (label c)) ≡ true
cut_label_scalars n c = printable_scalars (take n (label c)) (All-take Printable n (label c) (label_printable c))
