-- What the library's reading of a text says of bytes, and what a loop that writes characters knows.
use Rattle.std.proofs.Common.{◌≡◌, ℕ, ◌+◌, ◌<◌, ◌≤◌, true, false, List, [], ◌∷◌, ◌++◌, length, get_or, take, drop, set, Ok, Err, Result, sym, refl, ap, ◌∙◌, subst, ⊎_elim, append_assoc, arith, length-append, length-drop}
use lib.Utf8.{encode}
use Rattle.std.specs.Str.{chars, IsUtf8, IsValidUpTo, is_utf8}
use Rattle.std.proofs.lemmas.Str.{chars-nil, is_utf8-from_IsUtf8, IsUtf8-from_is_utf8, IsUtf8-past_char, chars_past_char}
use Rattle.std.proofs.lemmas.List.{nil_from_length, length-take-le, drop_more, drop_all, take_all, take_more, set_at, set-get_or}
use Rattle.std.proofs.lemmas.Bool.{cond-true, cond-false, cond_both, cases_Bool}
use Rattle.std.proofs.lemmas.Bool.Decides.{not_from_Decides}
use Rattle.text.specs.declared.refusal.Refusal.{Refusal}
use Rattle.text.specs.declared.refusal.Refusal.TheVariants.{IllFormed}
use Rattle.text.specs.Utf8.{Spells, WellFormed, LongestFront, Begins, characters, well_formed, front_length, counted, RefusedExactly, overwritten}
use Rattle.text.proofs.Sequences.{sequence_not_empty}
use Rattle.text.proofs.Spellings.{characters_spelled, well_formed_decides, front_length_is, one_longest_front}

pub shorter_after : (rest : List ℕ) (c : ℕ) (after : List ℕ) → Begins rest c after → length after < length rest
shorter_after rest c after (s, row, e) = omega (arith, sequence_not_empty row, length-append s after, ap length e)

-- The library's test is the same as the one here.
pub well_formed_from_IsUtf8 : (bytes : List ℕ) → IsUtf8 bytes → well_formed bytes ≡ true
unfolding well_formed is_utf8
well_formed_from_IsUtf8 bytes utf8 = is_utf8-from_IsUtf8 bytes utf8

IsUtf8-from_WellFormed : (bytes : List ℕ) → WellFormed bytes → IsUtf8 bytes
unfolding well_formed is_utf8
IsUtf8-from_WellFormed bytes w = IsUtf8-from_is_utf8 bytes ((well_formed_decides bytes).1 w)

-- What reading bytes through answers, by the library's test.
pub spelled_of_utf8 : (bytes : List ℕ) → IsUtf8 bytes → Spells bytes (characters bytes)
spelled_of_utf8 bytes utf8 = characters_spelled ((well_formed_decides bytes).0 (well_formed_from_IsUtf8 bytes utf8))

pub counted_of_utf8 : (bytes : List ℕ) → IsUtf8 bytes → counted bytes ≡ Ok (length (characters bytes))
counted_of_utf8 bytes utf8 = cond-true (well_formed bytes) _ _ (well_formed_from_IsUtf8 bytes utf8)

pub front_of_fault : (bytes : List ℕ) (place : ℕ) → IsValidUpTo bytes place → LongestFront bytes place
front_of_fault bytes place valid =
    record {
      fits = omega (arith, valid.short);
      front = (well_formed_decides (take place bytes)).0 (well_formed_from_IsUtf8 (take place bytes) valid.front);
      longest = λ m past within w. valid.longest m past (IsUtf8-from_WellFormed (take m bytes) w);
    }

pub refused_at_fault : (bytes : List ℕ) (refusal : Refusal) → (IsUtf8 bytes → ⊥) × ((place : ℕ) × (refusal ≡ IllFormed place) × IsValidUpTo bytes place) → Err refusal ≡ counted bytes
refused_at_fault bytes refusal (ill, (place, is, valid)) =
    let not_well : WellFormed bytes → ⊥ = λ w. ill (IsUtf8-from_WellFormed bytes w) in
    let fails : well_formed bytes ≡ false = ⊎_elim (λ t. absurd (not_well ((well_formed_decides bytes).0 t))) (λ f. f) (cases_Bool (well_formed bytes)) in
    let same : front_length bytes ≡ place = one_longest_front bytes _ _ (front_length_is bytes) (front_of_fault bytes place valid) in
    ap Err is ∙ sym (cond-false (well_formed bytes) _ _ fails ∙ ap (λ n. Err (IllFormed n)) same)

pub counted_exactly : (bytes : List ℕ) (r : Result ℕ Refusal) → r ≡ counted bytes → RefusedExactly bytes r
counted_exactly bytes r e =
    subst (RefusedExactly bytes) (sym e) (cond_both (well_formed bytes) _ _ (RefusedExactly bytes)
    (λ t. (characters_spelled ((well_formed_decides bytes).0 t), refl))
    (λ f. (not_from_Decides _ (well_formed_decides bytes) f, (front_length bytes, refl, front_length_is bytes))))

-- A buffer `old` that is now `out`: the first i of the values are written, and `left` are the others.
pub record WrittenSoFar (values left old out : List ℕ) (i : ℕ) : Type 0 where
  left_are : left ≡ drop i values
  has : out ≡ take i values ++ drop i old
  some : i ≤ length values

written_more : (values left old out : List ℕ) (i c : ℕ) → i < length old → WrittenSoFar values (c ∷ left) old out i → WrittenSoFar values left old (set out i c) (i + 1)
written_more values left old out i c h w =
    let enough : i < length values = omega (arith, length-drop i values, ap length w.left_are) in
    let step : c ∷ left ≡ get_or values i c ∷ drop (i + 1) values = w.left_are ∙ drop_more values i c enough in
    record {
      left_are = ap (drop 1) step;
      has =
          ap (λ l. set l i c) (w.has ∙ ap (λ l. take i values ++ l) (drop_more old i c h))
          ∙ set_at (take i values) (get_or old i c) (drop (i + 1) old) c i (length-take-le i values w.some)
          ∙ sym (append_assoc (take i values) (c ∷ []) (drop (i + 1) old))
          ∙ ap (λ l. l ++ drop (i + 1) old) (ap (λ l. take i values ++ take 1 l) step ∙ sym (take_more values i c enough));
      some = omega arith;
    }

written_full : (values left old out : List ℕ) (i : ℕ) → i ≡ length old → WrittenSoFar values left old out i → out ≡ overwritten old values
written_full values left old out i full w =
    let none_left : drop i old ≡ drop (length values) old = drop_all i old (omega arith) ∙ sym (drop_all (length values) old (omega (arith, w.some))) in
    w.has ∙ (λ k. take (full k) values ++ none_left k)

written_all : (values left old out : List ℕ) (i : ℕ) → i < length old → WrittenSoFar values left old out i → left ≡ [] → set out i (get_or out i 0) ≡ overwritten old values
written_all values left old out i h w none =
    let all : i ≡ length values = omega (arith, w.some, length-drop i values, ap length (sym w.left_are ∙ none)) in
    let whole : take i values ≡ take (length old) values = take_all i values (omega arith) ∙ sym (take_all (length old) values (omega arith)) in
    set-get_or out i 0 ∙ w.has ∙ (λ k. whole k ++ drop (all k) old)

-- The same as a loop's invariant, with what each way out of the loop leaves in the buffer: `rest` are the bytes of the values that are left.
pub record Writing (values rest old out : List ℕ) (i : ℕ) : Type 0 where
  pub so_far : WrittenSoFar values (chars rest) old out i
  pub utf8 : IsUtf8 rest
  pub full : i ≡ length old → out ≡ overwritten old values
  pub all : i < length old → length rest ≡ 0 → set out i (get_or out i 0) ≡ overwritten old values

writing : (values rest old out : List ℕ) (i : ℕ) → IsUtf8 rest → WrittenSoFar values (chars rest) old out i → Writing values rest old out i
writing values rest old out i utf8 w =
    record {
      so_far = w;
      utf8 = utf8;
      full = λ full. written_full values _ old out i full w;
      all = λ h none. written_all values _ old out i h w (ap chars (nil_from_length rest none) ∙ chars-nil);
    }

pub writing_none : (bytes out : List ℕ) → IsUtf8 bytes → Writing (characters bytes) bytes out out 0
writing_none bytes out utf8 = writing (characters bytes) bytes out out 0 utf8 (record { left_are = refl; has = refl; some = omega arith })

pub writing_more : (values rest old out : List ℕ) (i c : ℕ) (after : List ℕ) → i < length old → Writing values rest old out i → rest ≡ encode c ++ after → Writing values after old (set out i c) (i + 1)
writing_more values rest old out i c after h w e =
    writing values after old (set out i c) (i + 1) (IsUtf8-past_char rest after c w.utf8 e)
    (written_more values (chars after) old out i c h (subst (λ l. WrittenSoFar values l old out i) (chars_past_char rest after c w.utf8 e) w.so_far))
