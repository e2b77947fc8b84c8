-- A text is spelled character by character.
use Rattle.std.proofs.Common.{◌≡◌, ℕ, zero, suc, ◌+◌, ◌<◌, ◌≤◌, true, List, [], ◌∷◌, ◌++◌, length, get_or, take, Ok, sym, ap, ◌∙◌, arith}
use lib.Utf8.{scalar, scalars, encode}
use Rattle.std.proofs.lemmas.List.{flat_map_more, take_more}
use Rattle.std.proofs.lemmas.Bool.{and_parts, cond-true}
use Rattle.std.proofs.lemmas.Str.{length-encode, len_utf8_bounds}
use Rattle.text.specs.Utf8.{encoded}
use Rattle.history.specs.Spelling.{spelled_character, spell}

pub scalar_there : (text : List ℕ) (i : ℕ) → scalars text ≡ true → i < length text → scalar (get_or text i 0) ≡ true
scalar_there [] i h l = absurd (omega arith)
scalar_there (c ∷ cs) zero h l = (and_parts (scalar c) (scalars cs) h).0
scalar_there (c ∷ cs) (suc i) h l = scalar_there cs i (and_parts (scalar c) (scalars cs) h).1 (omega arith)

-- a scalar value has at most four bytes
pub encoded_count : (c count : ℕ) → scalar c ≡ true → Ok count ≡ encoded c → (count ≡ length (encode c)) × (count ≤ 4)
encoded_count c count good e =
    let all : count ≡ length (encode c) = grind (arith, e ∙ cond-true _ _ _ good) in
    (all, omega (arith, all, length-encode c, (len_utf8_bounds c).1))

-- one more character
pub spelled_more : (text : List ℕ) (i : ℕ) → i < length text → spell (take i text) ++ spelled_character (get_or text i 0) ≡ spell (take (i + 1) text)
unfolding spell
spelled_more text i inside = flat_map_more spelled_character [] (take i text) (get_or text i 0) ∙ ap spell (sym (take_more text i 0 inside))
