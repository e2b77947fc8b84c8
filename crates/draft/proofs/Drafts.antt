-- The text of a draft, read off its memory.
use Rattle.std.proofs.Common.{◌≡◌, ℕ, ◌+◌, ◌-◌, ◌<◌, ◌≤◌, Bool, true, cond, ◌&&◌, leb, List, ◌++◌, length, take, drop, ap, ◌∙◌, arith, rules}
use borrow.Rule.Slice.PartMut.{put_mid}
use lib.Seq.{take-set-lt}
use Rattle.std.proofs.lemmas.List.{places, same_lists, get_or-take, length-take-le}
use Rattle.std.proofs.lemmas.Bool.Decides.{nat_tests}
use Rattle.text.specs.Gap.{gap_opened, gap_closed}
use Rattle.draft.specs.Line.{line, swapped_before}
use Rattle.draft.specs.Draft.{draft, DraftsAreSound}

pub same_draft : (t u : List ℕ) (p q o n : ℕ) → t ≡ u → p ≡ q → o ≡ n → draft (line t p) o ≡ draft (line u q) n
same_draft t u p q o n a b d = cc

-- after a gap was closed over the characters from one place to another
pub text_without : (xs ys : List ℕ) (len from to : ℕ) (closed : Bool) → from ≤ to → to ≤ len → len ≤ length xs
    → closed ≡ (leb (from + (to - from)) len && leb len (length xs))
    → ys ≡ cond closed (gap_closed xs len from (to - from)) xs
    → take (len - (to - from)) ys ≡ take from (take len xs) ++ drop to (take len xs)
text_without xs ys len from to closed h k m e f =
    let yes : closed ≡ true = grind (arith, nat_tests) in
    let g : ys ≡ gap_closed xs len from (to - from) = f ∙ ap (λ (b : Bool). cond b (gap_closed xs len from (to - from)) xs) yes in
    rw g (same_lists _ _ (search (rules, places)) (λ i d l. grind (arith, places)))

-- after two characters of the text changed places
pub text_swapped : (xs : List ℕ) (len p : ℕ) → 2 ≤ p → p ≤ len → take len (swapped_before p xs) ≡ swapped_before p (take len xs)
text_swapped xs len p h k =
    let low : p - 2 < len = omega arith in
    let high : p - 1 < len = omega arith in
    rw (take-set-lt, take-set-lt, get_or-take len xs (p - 1) 0 high, get_or-take len xs (p - 2) 0 low)

-- after a gap was opened at a place, and characters were written into it
pub text_inserted : (xs ys ws cs : List ℕ) (len at : ℕ) (opened : Bool) → at ≤ len → len + length cs ≤ length xs
    → opened ≡ (leb at len && leb (len + length cs) (length xs))
    → ys ≡ cond opened (gap_opened xs len at (length cs)) xs
    → ws ≡ cs
    → take (len + length cs) (put_mid at (at + length cs - at) ys ws) ≡ take at (take len xs) ++ (cs ++ drop at (take len xs))
text_inserted xs ys ws cs len at opened h k e f w =
    let yes : opened ≡ true = grind (arith, nat_tests) in
    let g : ys ≡ gap_opened xs len at (length cs) = f ∙ ap (λ (b : Bool). cond b (gap_opened xs len at (length cs)) xs) yes in
    rw (w, g) (same_lists _ _ (search (rules, places)) (λ i d l. grind (arith, places)))

pub drafts_are_sound : DraftsAreSound
drafts_are_sound s =
    let size : length (take s.len s.value) ≡ s.len = length-take-le s.len s.value (omega arith) in
    record {
      offset_up_to_place = s.ok.0;
      place_up_to_end = omega arith;
      at_most_capacity = omega arith;
      scalar_values = s.ok.4;
    }
