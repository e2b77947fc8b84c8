-- A table of marks in the order of columns: where a run starts and ends, the run taken out, one more mark at its end, the rest cut off.
use Rattle.std.proofs.Common.{◌≡◌, ℕ, ◌+◌, ◌-◌, ◌<◌, ◌≤◌, Bool, true, false, not, ltb, leb, ◌&&◌, List, [], ◌∷◌, ◌++◌, map, length, take, drop, filter, sym, refl, ap, ◌∙◌, subst, append-nil, arith}
use Rattle.std.specs.List.{insert, slice_range}
use Rattle.std.specs.List.Sorted.{IsPartitionPoint, IsNonDecreasingBy}
use Rattle.std.proofs.lemmas.Bool.{lt-ltb, le-ltb, le-leb, lt-leb, eq-eqb, ne_eqb}
use Rattle.std.proofs.lemmas.Bool.Decides.{nat_tests}
use Rattle.std.proofs.lemmas.List.{take-append-drop, map-append, drop-take, drop_at, length-take, length-append}
use Rattle.std.proofs.Math.Nat.{le_antisymm}
use Rattle.std.proofs.lemmas.List.Elements.{filter-append}
use Rattle.std.proofs.lemmas.List.Kept.{IsNonDecreasingBy-filter}
use Rattle.cells.specs.declared.table.Mark.{Mark}
use Rattle.cells.specs.Slots.{column_of, code_of, stands_at, marks_of}
use Rattle.cells.specs.Marked.{StartsAt, EndsAt, IsRun, ChangesOnly, CutAt}
use Rattle.cells.proofs.Filters.{Parted, parted, in_parts, filter_none, filter_twice}

-- a partition point by a test, said by what the test means
pub point : {X : Type 0} (p : X → Bool) (P Q : X → Type 0) → ((x : X) → p x ≡ true → P x) → ((x : X) → p x ≡ false → Q x) → {xs ys : List X} → xs ≡ ys → {r : ℕ}
    → IsPartitionPoint (λ x. p x ≡ true) (λ x. p x ≡ false) xs r → IsPartitionPoint P Q ys r
point p P Q y n {xs} {ys} e {r} h = subst (λ zs. IsPartitionPoint P Q zs r) e ((λ k d a b. y _ (h.0 k d a b)), λ k d a b. n _ (h.1 k d a b))

abbrev before : ℕ → Mark → Bool
before k m = ltb m.column k

abbrev up_to : ℕ → Mark → Bool
up_to k m = leb m.column k

abbrev elsewhere : ℕ → Mark → Bool
elsewhere k m = not (stands_at k m)

module _ (k : ℕ) (ms : List Mark) (a : ℕ) (h : StartsAt k ms a) where
  pub left : Parted (before k) ms a
  left = parted (before k) (λ m. m.column < k) (λ m. k ≤ m.column) (λ m. lt-ltb m.column k) (λ m. le-ltb m.column k) ms a h

  -- what a filter keeps of those to the left
  pub kept_left : (p r : Mark → Bool) → ((m : Mark) → r m ≡ (before k m && p m)) → filter p (take a ms) ≡ filter r ms
  kept_left p r e = ap (filter p) left.front ∙ filter_twice p (before k) r e ms

  pub cut : CutAt k ms (take a ms)
  cut = record {
    kept = λ j l. ap (map code_of) (kept_left (stands_at j) (stands_at j) (λ m. grind (arith, nat_tests)));
    gone = λ j l. ap (map code_of) (kept_left (stands_at j) (λ _. false) (λ m. grind (arith, nat_tests)) ∙ filter_none (λ _. false) ms (λ i d l. refl));
  }

module _ (k : ℕ) (ms : List Mark) (b : ℕ) (h : EndsAt k ms b) where
  pub right : Parted (up_to k) ms b
  right = parted (up_to k) (λ m. m.column ≤ k) (λ m. k < m.column) (λ m. le-leb m.column k) (λ m. lt-leb m.column k) ms b h

  -- what a filter keeps of those to the right
  pub kept_right : (p r : Mark → Bool) → ((m : Mark) → r m ≡ (not (up_to k m) && p m)) → filter p (drop b ms) ≡ filter r ms
  kept_right p r e = ap (filter p) right.rest ∙ filter_twice p (λ m. not (up_to k m)) r e ms

  pub added : (c : ℕ) → ChangesOnly k (marks_of k ms ++ (c ∷ [])) ms (insert ms b (record { column = k; code = c }))
  added c =
      let e = eq-eqb k k refl in
      let none : filter (stands_at k) (drop b ms) ≡ [] = kept_right (stands_at k) (λ _. false) (λ m. grind (arith, nat_tests)) ∙ filter_none (λ _. false) ms (λ i d l. refl) in
      let all : filter (stands_at k) ms ≡ filter (stands_at k) (take b ms) = in_parts (stands_at k) ms b ∙ ap (λ ys. filter (stands_at k) (take b ms) ++ ys) none ∙ append-nil (filter (stands_at k) (take b ms)) in
      record {
        here = simp (filter-append, map-append, e, none, all);
        elsewhere = λ j n. let d = ne_eqb k j (λ s. n (sym s)) in ap (map code_of) (simp (filter-append, d) (sym (in_parts (stands_at j) ms b)));
      }

module _ (k : ℕ) (ms : List Mark) (a b : ℕ) (h : IsRun k ms a b) where
  -- the first b are those to the left, and the run
  pub run_is : take b ms ≡ take a ms ++ filter (stands_at k) ms
  run_is =
      let x : filter (up_to k) (take a ms) ≡ take a ms = kept_left k ms a h.starts (up_to k) (before k) (λ m. grind (arith, nat_tests)) ∙ sym (left k ms a h.starts).front in
      let y : filter (up_to k) (drop a ms) ≡ filter (stands_at k) ms =
      ap (filter (up_to k)) (left k ms a h.starts).rest ∙ filter_twice (up_to k) (λ m. not (before k m)) (stands_at k) (λ m. grind (arith, nat_tests)) ms in
      (right k ms b h.ends).front ∙ in_parts (up_to k) ms a ∙ ap (λ xs. xs ++ filter (up_to k) (drop a ms)) x ∙ ap (λ ys. take a ms ++ ys) y

  pub run_removed : take a ms ++ drop b ms ≡ filter (elsewhere k) ms
  run_removed =
      let x : filter (elsewhere k) (take b ms) ≡ take a ms = ap (filter (elsewhere k)) (right k ms b h.ends).front ∙ filter_twice (elsewhere k) (up_to k) (before k) (λ m. grind (arith, nat_tests)) ms ∙ sym (left k ms a h.starts).front in
      let y : filter (elsewhere k) (drop b ms) ≡ drop b ms = kept_right k ms b h.ends (elsewhere k) (λ m. not (up_to k m)) (λ m. grind (arith, nat_tests)) ∙ sym (right k ms b h.ends).rest in
      sym (in_parts (elsewhere k) ms b ∙ ap (λ xs. xs ++ filter (elsewhere k) (drop b ms)) x ∙ ap (λ ys. take a ms ++ ys) y)

  pub run_in_order : a ≤ length ms → b ≤ length ms → a ≤ b
  run_in_order l m = omega (arith, ap length run_is, length-append (take a ms) (filter (stands_at k) ms), length-take a ms, length-take b ms)

  -- the run alone
  pub run_between : a ≤ length ms → b ≤ length ms → slice_range ms a b ≡ filter (stands_at k) ms
  run_between l m =
      let o = run_in_order l m in
      let q : a + (b - a) ≡ b = omega arith in
      sym (drop-take a (b - a) ms) ∙ ap (λ n. drop a (take n ms)) q ∙ ap (drop a) run_is ∙ drop_at (take a ms) (filter (stands_at k) ms) a (length-take a ms ∙ omega arith)

  pub removed : ChangesOnly k [] ms (take a ms ++ drop b ms)
  removed = rw run_removed (record {
    here = ap (map code_of) (filter_twice (stands_at k) (elsewhere k) (λ _. false) (λ m. grind (arith, nat_tests)) ms ∙ filter_none (λ _. false) ms (λ i d l. refl));
    elsewhere = λ j n. ap (map code_of) (filter_twice (stands_at j) (elsewhere k) (stands_at j) (λ m. grind (arith, nat_tests)) ms);
  })

  pub removed_in_order : IsNonDecreasingBy column_of ms → IsNonDecreasingBy column_of (take a ms ++ drop b ms)
  removed_in_order o = rw run_removed (IsNonDecreasingBy-filter column_of (elsewhere k) ms o)

  -- where the run is empty the table stays
  pub none_removed : b ≤ a → a ≤ b → ChangesOnly k [] ms ms
  none_removed l m = subst (ChangesOnly k [] ms) (ap (λ n. take a ms ++ drop n ms) (le_antisymm l m) ∙ take-append-drop a ms) removed
