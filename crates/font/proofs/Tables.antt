-- Tables of ranges: that one rises is a test; what a search by halves concludes from that;
-- and how one rising table and three lists of ranges say the same.
use Rattle.std.proofs.Common.{◌≡◌, ℕ, zero, suc, ◌<◌, ◌≤◌, Bool, true, false, cond, ◌&&◌, ◌||◌, leb, ltb, ◌⊎◌, List, [], ◌∷◌, length, get_or, sym, refl, ap, ◌∙◌, inl, inr, arith}
use Rattle.std.proofs.lemmas.Bool.Decides.{nat_tests}
use Rattle.std.specs.List.Sorted.{IsPartitionedBy, IsPartitionPoint}
use Rattle.std.proofs.lemmas.List.Sorted.{IsPartitionedBy-ltb, IsNonDecreasingBy-from_default}
use Rattle.std.proofs.lemmas.Bool.{cases_eq, cases_lt}
use Rattle.std.proofs.lemmas.List.{get_or_default}
use Rattle.text.specs.Scalars.{within}
use Rattle.font.specs.declared.Columns.{Columns}
use Rattle.font.specs.declared.Columns.TheVariants.{NoWidth, Zero, One, Two}
use Rattle.font.specs.Foyer.{within_any, no_width_ranges, zero_column_ranges, two_column_ranges, foyer_columns}
use Rattle.font.specs.Labels.{has_label, is_mark, is_wide}
use Rattle.font.specs.Ranges.{CodeRange, listed, ranges_of, rises_from}

-- The first and the last code of the k-th range, and its columns. (What stands past the end of a table does not matter.)
abbrev pub first_at : List CodeRange → ℕ → ℕ
first_at table k = (get_or table k (0, 0, NoWidth)).0

abbrev pub last_at : List CodeRange → ℕ → ℕ
last_at table k = (get_or table k (0, 0, NoWidth)).1

abbrev pub columns_at : List CodeRange → ℕ → Columns
columns_at table k = (get_or table k (0, 0, NoWidth)).2

-- That a table rises, by the places of its ranges.
pub record Rising (table : List CodeRange) : Type 0 where
  pub forward : (k : ℕ) → k < length table → first_at table k ≤ last_at table k
  pub apart : (j k : ℕ) → j < k → k < length table → last_at table j < first_at table k

rises_parts : (floor : ℕ) (r : CodeRange) (rest : Bool) → (leb floor r.0 && (leb r.0 r.1 && rest)) ≡ true
    → (floor ≤ r.0) × (r.0 ≤ r.1) × (rest ≡ true)
rises_parts floor r rest e = grind (arith, nat_tests)

from_floor : (floor : ℕ) (table : List CodeRange) (k : ℕ) → rises_from floor table ≡ true → k < length table
    → (floor ≤ first_at table k) × (first_at table k ≤ last_at table k)
from_floor floor [] k e h = absurd (omega arith)
from_floor floor (r ∷ rs) zero e h = let p = rises_parts floor r (rises_from (suc r.1) rs) e in (p.0, p.1)
from_floor floor (r ∷ rs) (suc k) e h =
    let p = rises_parts floor r (rises_from (suc r.1) rs) e in
    let q = from_floor (suc r.1) rs k p.2 (omega arith) in
    (omega (arith, p.0, p.1, q.0), q.1)

ends_before : (floor : ℕ) (table : List CodeRange) (j k : ℕ) → rises_from floor table ≡ true → j < k → k < length table
    → last_at table j < first_at table k
ends_before floor [] j k e l h = absurd (omega arith)
ends_before floor (r ∷ rs) j zero e l h = absurd (omega arith)
ends_before floor (r ∷ rs) zero (suc k) e l h =
    let p = rises_parts floor r (rises_from (suc r.1) rs) e in (from_floor (suc r.1) rs k p.2 (omega arith)).0
ends_before floor (r ∷ rs) (suc j) (suc k) e l h =
    let p = rises_parts floor r (rises_from (suc r.1) rs) e in ends_before (suc r.1) rs j k p.2 (omega arith) (omega arith)

pub rising : (table : List CodeRange) → rises_from 0 table ≡ true → Rising table
rising table e = record { forward = λ k h. (from_floor 0 table k e h).1; apart = λ j k l h. ends_before 0 table j k e l h }

rest_rising : (r : CodeRange) (rs : List CodeRange) → Rising (r ∷ rs) → Rising rs
rest_rising r rs rise =
    record {
      forward = λ k h. rise.forward (suc k) (omega arith);
      apart = λ j k l h. rise.apart (suc j) (suc k) (omega arith) (omega arith);
    }

-- A code in the k-th range gets its columns.
pub held : (table : List CodeRange) (c k : ℕ) → Rising table → k < length table
    → first_at table k ≤ c → c ≤ last_at table k → columns_at table k ≡ listed table c
held [] c k rise h a b = absurd (omega arith)
held (r ∷ rs) c zero rise h a b = grind (arith, nat_tests)
held (r ∷ rs) c (suc k) rise h a b =
    let before = rise.apart 0 (suc k) (omega arith) h in
    let rest = held rs c k (rest_rising r rs rise) (omega arith) a b in
    grind (arith, nat_tests)

-- The same of a range that was read at its place.
pub held_there : (table : List CodeRange) (c i : ℕ) (range : CodeRange) → Rising table → i < length table → range ≡ get_or table i range → range.0 ≤ c → c ≤ range.1
    → range.2 ≡ listed table c
held_there table c i range rise h is from to =
    let same : get_or table i (0, 0, NoWidth) ≡ range = get_or_default table i _ range h ∙ sym is in
    let first : first_at table i ≡ range.0 = ap (λ (r : CodeRange). r.0) same in
    let last : last_at table i ≡ range.1 = ap (λ (r : CodeRange). r.1) same in
    ap (λ (r : CodeRange). r.2) (sym same) ∙ held table c i rise h (omega arith) (omega arith)

-- A code in no range gets one column.
pub in_none : (table : List CodeRange) (c : ℕ) → ((k : ℕ) → k < length table → (last_at table k < c) ⊎ (c < first_at table k))
    → One ≡ listed table c
in_none [] c outside = refl
in_none (r ∷ rs) c outside =
    let here : (r.1 < c) ⊎ (c < r.0) = outside 0 (omega arith) in
    let rest = in_none rs c (λ k h. outside (suc k) (omega arith)) in
    grind (arith, nat_tests)

-- A code below one range is below each later one.
pub below_later : (table : List CodeRange) (c m k : ℕ) → Rising table → m ≤ k → k < length table → c < first_at table m → c < first_at table k
below_later table c m k rise le h below = elim (cases_eq m k) [
  | inl same ↦ rw same at below
  | inr other ↦ let a = rise.apart m k (omega arith) h in let b = rise.forward m (omega arith) in omega (arith, a, b)
]

-- The ranges that end before a code stand first ..
ends_rise : (table : List CodeRange) (j k : ℕ) → Rising table → j ≤ k → k < length table → last_at table j ≤ last_at table k
ends_rise table j k rise le h = elim (cases_eq j k) [
  | inl same ↦ rw same (omega arith)
  | inr other ↦ let a = rise.apart j k (omega arith) h in let b = rise.forward k h in omega (arith, a, b)
]

abbrev pub EndedFirst : List CodeRange → (c i : ℕ) → Type 0
EndedFirst table c i = IsPartitionPoint (λ r. r.1 < c) (λ r. c ≤ r.1) table i

pub ended_first : (table : List CodeRange) (c : ℕ) → Rising table → IsPartitionedBy (λ r. ltb r.1 c) table
ended_first table c rise = IsPartitionedBy-ltb (λ r. r.1) table c (IsNonDecreasingBy-from_default (λ r. r.1) table (0, 0, NoWidth) (λ j k le h. ends_rise table j k rise le h))

-- .. and where i of them do, a code that a range holds is in the next one.
pub found : (table : List CodeRange) (c i : ℕ) (range : CodeRange) → Rising table → EndedFirst table c i → i < length table → range ≡ get_or table i range → range.0 ≤ c
    → range.2 ≡ listed table c
found table c i range rise ended h is from =
    let same : get_or table i (0, 0, NoWidth) ≡ range = get_or_default table i _ range h ∙ sym is in
    let first : first_at table i ≡ range.0 = ap (λ (r : CodeRange). r.0) same in
    ap (λ (r : CodeRange). r.2) (sym same) ∙ held table c i rise h (omega arith) (ended.1 i (0, 0, NoWidth) (omega arith) h)

not_found : (table : List CodeRange) (c i : ℕ) → Rising table → EndedFirst table c i → (i < length table → c < first_at table i) → One ≡ listed table c
not_found table c i rise ended below =
    in_none table c (λ k h. elim (cases_lt k i) [
      | inl a ↦ inl (ended.0 k (0, 0, NoWidth) (omega arith) a)
      | inr b ↦ inr (below_later table c i k rise b h (below (omega arith)))
    ])

pub before_next : (table : List CodeRange) (c i : ℕ) (range : CodeRange) → Rising table → EndedFirst table c i → i < length table → range ≡ get_or table i range → c < range.0
    → One ≡ listed table c
before_next table c i range rise ended h is before =
    let same : get_or table i (0, 0, NoWidth) ≡ range = get_or_default table i _ range h ∙ sym is in
    let first : first_at table i ≡ range.0 = ap (λ (r : CodeRange). r.0) same in
    not_found table c i rise ended (λ _. omega arith)

pub past_all : (table : List CodeRange) (c i : ℕ) → Rising table → EndedFirst table c i → length table ≤ i → One ≡ listed table c
past_all table c i rise ended past = not_found table c i rise ended (λ h. absurd (omega arith))

-- Whether a table's first range, or one of the rest, passes the test and holds c.
abbrev asked : (Columns → Bool) → ℕ → CodeRange → List CodeRange → Bool
asked test c r rs = (test r.2 && within r.0 r.1 c) || within_any (ranges_of test rs) c

ranges_of_more : (test : Columns → Bool) (c : ℕ) (r : CodeRange) (rs : List CodeRange) → within_any (ranges_of test (r ∷ rs)) c ≡ asked test c r rs
ranges_of_more test c r rs =
    elim (test r.2) as (λ passes. within_any (cond passes ((r.0, r.1) ∷ ranges_of test rs) (ranges_of test rs)) c ≡ ((passes && within r.0 r.1 c) || within_any (ranges_of test rs) c)) [
      | true ↦ refl
      | false ↦ refl
    ]

-- A code below all ranges is in none of those that pass the test.
in_none_of : (test : Columns → Bool) (c : ℕ) (table : List CodeRange) → ((k : ℕ) → k < length table → c < first_at table k) → within_any (ranges_of test table) c ≡ false
in_none_of test c [] below = refl
in_none_of test c (r ∷ rs) below =
    let here : c < r.0 = below 0 (omega arith) in
    let rest = in_none_of test c rs (λ k h. below (suc k) (omega arith)) in
    let more = ranges_of_more test c r rs in
    grind (arith, nat_tests)

-- The columns by the answers to three questions.
abbrev pub by_answers : (labelled mark wide : Bool) → Columns
by_answers labelled mark wide = cond labelled NoWidth (cond mark Zero (cond wide Two One))

-- The answers from a table's first range, which has the columns w, and from the rest, which do not hold what the first holds.
answers_more : (w rest : Columns) (holds labelled mark wide : Bool) → rest ≡ by_answers labelled mark wide
    → (holds ≡ true → (labelled ≡ false) × (mark ≡ false) × (wide ≡ false))
    → cond holds w rest ≡ by_answers ((has_label w && holds) || labelled) ((is_mark w && holds) || mark) ((is_wide w && holds) || wide)
answers_more NoWidth rest true labelled mark wide e none = refl
answers_more Zero rest true labelled mark wide e none = let n = none refl in grind arith
answers_more One rest true labelled mark wide e none = let n = none refl in grind arith
answers_more Two rest true labelled mark wide e none = let n = none refl in grind arith
answers_more NoWidth rest false labelled mark wide e none = e
answers_more Zero rest false labelled mark wide e none = e
answers_more One rest false labelled mark wide e none = e
answers_more Two rest false labelled mark wide e none = e

-- The ranges of a rising table may be sorted by their columns: at most one of them holds c, so it is all one in which order they are asked.
pub sorted_by_columns : (c : ℕ) (table : List CodeRange) → Rising table
    → listed table c ≡ by_answers (within_any (ranges_of has_label table) c) (within_any (ranges_of is_mark table) c) (within_any (ranges_of is_wide table) c)
sorted_by_columns c [] rise = refl
sorted_by_columns c (r ∷ rs) rise =
    let past : (k : ℕ) → k < length rs → r.1 < first_at rs k = λ k h. rise.apart 0 (suc k) (omega arith) (omega arith) in
    let below : within r.0 r.1 c ≡ true → (k : ℕ) → k < length rs → c < first_at rs k = λ holds k h. let p = past k h in grind (arith, nat_tests) in
    let none : (test : Columns → Bool) → within r.0 r.1 c ≡ true → within_any (ranges_of test rs) c ≡ false = λ test holds. in_none_of test c rs (below holds) in
    let more : listed (r ∷ rs) c ≡ by_answers (asked has_label c r rs) (asked is_mark c r rs) (asked is_wide c r rs) =
    answers_more r.2 (listed rs c) (within r.0 r.1 c) _ _ _ (sorted_by_columns c rs (rest_rising r rs rise))
    (λ holds. (none has_label holds, none is_mark holds, none is_wide holds)) in
    cc (ranges_of_more has_label c r rs, ranges_of_more is_mark c r rs, ranges_of_more is_wide c r rs)

-- A table that rises and has the ranges of the foyer font says what the foyer font says.
pub listed_foyer : (table : List CodeRange) → rises_from 0 table ≡ true → ranges_of has_label table ≡ no_width_ranges → ranges_of is_mark table ≡ zero_column_ranges
    → ranges_of is_wide table ≡ two_column_ranges → (c : ℕ) → listed table c ≡ foyer_columns c
listed_foyer table rises labelled marks wide c = let sorted = sorted_by_columns c table (rising table rises) in cc
