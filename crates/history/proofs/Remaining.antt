-- Lines that are read one after another, and those of them that are readable.
use Rattle.std.proofs.Common.{◌≡◌, ℕ, suc, ◌+◌, ◌-◌, ◌<◌, ◌≤◌, true, false, eqb, List, [], ◌∷◌, ◌++◌, map, length, get_or, take, drop, Some, None, Option, filter, sym, ap, ◌∙◌, subst, arith}
use denote.Ref.{Bor}
use Rattle.std.specs.List.{AllByRecursion}
use Rattle.std.specs.Iterator.{YieldsFirstRef, Drains, MakesProgress, item_count}
use Rattle.std.proofs.ByRecursion.{kept_by_passes}
use Rattle.std.proofs.lemmas.List.{drop_all, length-append, length_push, length-take}
use Rattle.std.proofs.lemmas.List.Sums.{length-filter, count_by-le-length}
use Rattle.std.proofs.lemmas.Bool.{cond-true, cond-false, cond_both}
use Rattle.history.specs.Lines.{newline, carriage_return, lines_after, lines, without_return, unless_empty}
use Rattle.history.specs.Readable.{readable, readable_lines}

-- The first line is kept if it is readable, and left out if not.
pub line_kept : (bytes line after : List ℕ) → lines bytes ≡ line ∷ lines after → true ≡ readable line → readable_lines bytes ≡ line ∷ readable_lines after
unfolding readable_lines
line_kept bytes line after e good = ap (filter readable) e ∙ cond-true (readable line) _ _ (sym good)

pub line_left_out : (bytes line after : List ℕ) → lines bytes ≡ line ∷ lines after → false ≡ readable line → readable_lines after ≡ readable_lines bytes
unfolding readable_lines
line_left_out bytes line after e bad = sym (ap (filter readable) e ∙ cond-false (readable line) _ _ (sym bad))

pub none_readable : (bytes : List ℕ) → lines bytes ≡ [] → readable_lines bytes ≡ []
unfolding readable_lines
none_readable bytes e = ap (filter readable) e

-- an iterator that gives a list comes nearer to its end
pub comes_nearer : {S X : Type 0} (rest : S → List X) (s t : S) (r : Option (Bor X)) → YieldsFirstRef rest s r t → MakesProgress (λ _. Unit {0}) (item_count rest) s r t
comes_nearer rest s t None none = record { on = λ _. tt; keeps = tt; rests = λ _. tt }
comes_nearer rest s t (Some x) first = record { on = λ _. (tt, tt, omega (arith, ap length first)); keeps = tt; rests = λ _. tt }

-- There are no more readable lines than bytes.
one_at_most : (piece : List ℕ) → length (unless_empty piece) ≤ length piece
one_at_most [] = omega arith
one_at_most (b ∷ bs) = omega arith

no_longer : (piece : List ℕ) → length (without_return piece) ≤ length piece
no_longer piece = cond_both (eqb (get_or piece (length piece - 1) 0) carriage_return) (take (length piece - 1) piece) piece (λ l. length l ≤ length piece) (λ _. omega (arith, length-take (length piece - 1) piece)) (λ _. omega arith)

few_lines : (begun bytes : List ℕ) → length (lines_after begun bytes) ≤ length begun + length bytes
few_lines begun [] = omega (arith, one_at_most begun)
few_lines begun (b ∷ bs) =
    cond_both (eqb b newline) _ _ (λ l. length l ≤ length begun + suc (length bs))
    (λ _. omega (arith, length-append (unless_empty (without_return begun)) (lines_after [] bs), one_at_most (without_return begun), no_longer begun, few_lines [] bs))
    (λ _. omega (arith, length_push begun b, few_lines (begun ++ b ∷ []) bs))

pub few_readable : (bytes : List ℕ) → length (readable_lines bytes) ≤ length bytes
unfolding readable_lines lines
few_readable bytes = omega (arith, length-filter readable (lines bytes), count_by-le-length readable (lines bytes), few_lines [] bytes)

-- the first of some readable lines is readable
pub first_is_readable : (bytes line : List ℕ) (others : List (List ℕ)) → readable_lines bytes ≡ line ∷ others → readable line ≡ true
unfolding readable_lines
first_is_readable bytes line others e = (subst (AllByRecursion (λ l. readable l ≡ true)) e (kept_by_passes readable (lines bytes))).0

-- one line less is dropped from what remains
pub dropped_more : {S X : Type 0} (rest : S → List X) (s t : S) (r : Option (Bor X)) (n : ℕ) → YieldsFirstRef rest s r t → 0 < n → drop (n - 1) (rest t) ≡ drop n (rest s)
dropped_more rest s t None n none some = drop_all (n - 1) (rest t) (omega (arith, ap length none.1)) ∙ sym (drop_all n (rest s) (omega (arith, ap length none.0)))
dropped_more rest s t (Some x) n first some =
    let more : n ≡ suc (n - 1) = omega arith in
    sym (ap (λ k. drop k (rest s)) more ∙ ap (drop (suc (n - 1))) first)

-- all that an iterator over a list gives is the list
pub given_whole : {S X : Type 0} (rest : S → List X) (xs : List (Bor X)) (s : S) → Drains (YieldsFirstRef rest) s xs → map (λ x. x.now) xs ≡ rest s
given_whole rest [] s (u, (t, here, none)) = sym (ap rest here ∙ none.0)
given_whole rest (x ∷ xs) s (u, (t, (i, first, more), end)) = ap (λ l. x.now ∷ l) (given_whole rest xs i (u, (t, more, end))) ∙ sym first
