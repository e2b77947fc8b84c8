-- Filters of filters, and a list that a test parts.
use Rattle.std.proofs.Common.{◌≡◌, ℕ, ◌+◌, Bool, true, false, cond, not, ◌&&◌, List, [], ◌∷◌, ◌++◌, take, drop, filter, sym, refl, ap, ◌∙◌, ⊎_elim, arith, append-nil}
use Rattle.std.specs.List.{All}
use Rattle.std.specs.List.Sorted.{IsPartitionPoint}
use Rattle.std.proofs.lemmas.List.{get_or-take, get_or-drop, length-take, length-drop, take-append-drop}
use Rattle.std.proofs.lemmas.List.Elements.{All-head, All-tail, filter-append}
use Rattle.std.proofs.lemmas.Bool.{cases_Bool}

module _ {X : Type 0} where
  pub filter_all : (p : X → Bool) (xs : List X) → All (λ x. p x ≡ true) xs → filter p xs ≡ xs
  filter_all p [] a = refl
  filter_all p (x ∷ xs) a = let e = All-head (λ x. p x ≡ true) x xs a in rw e (ap (λ ys. x ∷ ys) (filter_all p xs (All-tail (λ x. p x ≡ true) x xs a)))

  pub filter_none : (p : X → Bool) (xs : List X) → All (λ x. p x ≡ false) xs → filter p xs ≡ []
  filter_none p [] a = refl
  filter_none p (x ∷ xs) a = let e = All-head (λ x. p x ≡ false) x xs a in rw e (filter_none p xs (All-tail (λ x. p x ≡ false) x xs a))

  -- what a filter keeps of the first r elements, and of the others
  pub in_parts : (p : X → Bool) (xs : List X) (r : ℕ) → filter p xs ≡ filter p (take r xs) ++ filter p (drop r xs)
  in_parts p xs r = ap (filter p) (sym (take-append-drop r xs)) ∙ filter-append p (take r xs) (drop r xs)

  pub filter_twice : (p q r : X → Bool) → ((x : X) → r x ≡ (q x && p x)) → (xs : List X) → filter p (filter q xs) ≡ filter r xs
  filter_twice p q r h [] = refl
  filter_twice p q r h (x ∷ xs) =
      let e = h x in
      ⊎_elim
      (λ (t : q x ≡ true). rw (e, t) (ap (λ ys. cond (p x) (x ∷ ys) ys) (filter_twice p q r h xs)))
      (λ (t : q x ≡ false). rw (e, t) (filter_twice p q r h xs))
      (cases_Bool (q x))

  -- where the first r elements pass the test, and no other does
  pub record Parted (p : X → Bool) (xs : List X) (r : ℕ) : Type 0 where
    pub front : take r xs ≡ filter p xs
    pub rest : drop r xs ≡ filter (λ x. not (p x)) xs

  pub parted : (p : X → Bool) (P Q : X → Type 0) → ((x : X) → P x → p x ≡ true) → ((x : X) → Q x → p x ≡ false) → (xs : List X) (r : ℕ) → IsPartitionPoint P Q xs r → Parted p xs r
  parted p P Q y n xs r h =
      let q : X → Bool = λ x. not (p x) in
      let a : All (λ x. p x ≡ true) (take r xs) = λ k d l. let e = get_or-take r xs k d (omega (arith, length-take r xs)) in rw e (y _ (h.0 k d (omega arith) (omega (arith, length-take r xs)))) in
      let b : All (λ x. p x ≡ false) (drop r xs) = λ k d l. let e = get_or-drop r xs k d in rw e (n _ (h.1 (r + k) d (omega arith) (omega (arith, length-drop r xs)))) in
      let a' : All (λ x. q x ≡ false) (take r xs) = λ k d l. ap not (a k d l) in
      let b' : All (λ x. q x ≡ true) (drop r xs) = λ k d l. ap not (b k d l) in
      record {
        front = sym (in_parts p xs r ∙ ap (λ ys. ys ++ filter p (drop r xs)) (filter_all p (take r xs) a) ∙ ap (λ ys. take r xs ++ ys) (filter_none p (drop r xs) b) ∙ append-nil (take r xs));
        rest = sym (in_parts q xs r ∙ ap (λ ys. ys ++ filter q (drop r xs)) (filter_none q (take r xs) a') ∙ filter_all q (drop r xs) b');
      }
