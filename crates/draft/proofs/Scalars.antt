-- A text stays scalar values when parts of it go, come in or change places.
use Rattle.std.proofs.Common.{◌≡◌, ℕ, zero, suc, ◌-◌, true, List, [], ◌∷◌, ◌++◌, get_or, take, drop, set, refl}
use lib.Utf8.{scalar, scalars}
use Rattle.std.proofs.lemmas.Bool.{and_parts, and_from}
use Rattle.draft.specs.Line.{swapped_before}

pub scalars_append : (xs ys : List ℕ) → scalars xs ≡ true → scalars ys ≡ true → scalars (xs ++ ys) ≡ true
scalars_append [] ys h k = k
scalars_append (x ∷ xs) ys h k =
    let p = and_parts (scalar x) (scalars xs) h in
    and_from (scalar x) (scalars (xs ++ ys)) p.0 (scalars_append xs ys p.1 k)

pub scalars_take : (n : ℕ) (xs : List ℕ) → scalars xs ≡ true → scalars (take n xs) ≡ true
scalars_take zero xs h = refl
scalars_take (suc n) [] h = refl
scalars_take (suc n) (x ∷ xs) h =
    let p = and_parts (scalar x) (scalars xs) h in
    and_from (scalar x) (scalars (take n xs)) p.0 (scalars_take n xs p.1)

pub scalars_drop : (n : ℕ) (xs : List ℕ) → scalars xs ≡ true → scalars (drop n xs) ≡ true
scalars_drop zero xs h = h
scalars_drop (suc n) [] h = refl
scalars_drop (suc n) (x ∷ xs) h = scalars_drop n xs (and_parts (scalar x) (scalars xs) h).1

-- past the end stands 0, which is a scalar value too
scalar_at : (xs : List ℕ) (i : ℕ) → scalars xs ≡ true → scalar (get_or xs i 0) ≡ true
scalar_at [] i h = refl
scalar_at (x ∷ xs) zero h = (and_parts (scalar x) (scalars xs) h).0
scalar_at (x ∷ xs) (suc i) h = scalar_at xs i (and_parts (scalar x) (scalars xs) h).1

scalars_set : (xs : List ℕ) (i c : ℕ) → scalar c ≡ true → scalars xs ≡ true → scalars (set xs i c) ≡ true
scalars_set [] i c e h = refl
scalars_set (x ∷ xs) zero c e h = and_from (scalar c) (scalars xs) e (and_parts (scalar x) (scalars xs) h).1
scalars_set (x ∷ xs) (suc i) c e h =
    let p = and_parts (scalar x) (scalars xs) h in
    and_from (scalar x) (scalars (set xs i c)) p.0 (scalars_set xs i c e p.1)

pub scalars_without : (from to : ℕ) (xs : List ℕ) → scalars xs ≡ true → scalars (take from xs ++ drop to xs) ≡ true
scalars_without from to xs h = scalars_append (take from xs) (drop to xs) (scalars_take from xs h) (scalars_drop to xs h)

pub scalars_inserted : (at : ℕ) (cs xs : List ℕ) → scalars cs ≡ true → scalars xs ≡ true → scalars (take at xs ++ (cs ++ drop at xs)) ≡ true
scalars_inserted at cs xs e h =
    scalars_append (take at xs) (cs ++ drop at xs) (scalars_take at xs h) (scalars_append cs (drop at xs) e (scalars_drop at xs h))

pub scalars_swapped : (p : ℕ) (xs : List ℕ) → scalars xs ≡ true → scalars (swapped_before p xs) ≡ true
scalars_swapped p xs h =
    scalars_set (set xs (p - 2) (get_or xs (p - 1) 0)) (p - 1) (get_or xs (p - 2) 0) (scalar_at xs (p - 2) h)
    (scalars_set xs (p - 2) (get_or xs (p - 1) 0) (scalar_at xs (p - 1) h) h)
