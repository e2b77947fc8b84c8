-- A text that is written in UTF-8, character by character.
use Rattle.std.proofs.Common.{◌≡◌, ℕ, true, ◌+◌, ◌*◌, ◌<◌, ◌≤◌, List, [], ◌∷◌, ◌++◌, length, get_or, take, drop, sym, refl, ap, ◌∙◌, arith}
use lib.Utf8.{encode, encodes, scalar, scalars}
use borrow.Rule.Slice.PartMut.{put_mid}
use Rattle.std.proofs.lemmas.Bool.{and_parts}
use Rattle.std.proofs.lemmas.List.{at_drop_more, take_more, append-nil, length-append, take-append-drop}
use Rattle.std.proofs.lemmas.Str.{encodes-append, length-encode, len_utf8_bounds}
use Rattle.recorder.specs.Log.{written_at}
use Rattle.recorder.proofs.Writes.{put_written, written_more}

-- the characters after one of a text of scalar values
pub scalars_after : (cs : List ℕ) (i : ℕ) → i < length cs → scalars (drop i cs) ≡ true → scalars (drop (i + 1) cs) ≡ true
scalars_after cs i h e = (and_parts (scalar (get_or cs i 0)) (scalars (drop (i + 1) cs)) (sym (at_drop_more scalars cs i 0 h) ∙ e)).1

-- one more character
pub encodes_more : (cs : List ℕ) (i : ℕ) → i < length cs → encodes (take (i + 1) cs) ≡ encodes (take i cs) ++ encode (get_or cs i 0)
encodes_more cs i h =
    ap encodes (take_more cs i 0 h) ∙ encodes-append (take i cs) (get_or cs i 0 ∷ []) ∙ ap (λ x. encodes (take i cs) ++ x) (append-nil (encode (get_or cs i 0)))

pub encodes_room : (cs : List ℕ) (i : ℕ) → i < length cs → length (encodes (take i cs)) + length (encode (get_or cs i 0)) ≤ length (encodes cs)
encodes_room cs i h =
    let all : encodes (take (i + 1) cs) ++ encodes (drop (i + 1) cs) ≡ encodes cs = sym (encodes-append (take (i + 1) cs) (drop (i + 1) cs)) ∙ ap encodes (take-append-drop (i + 1) cs) in
    omega (arith, simp length-append at (ap length all), simp length-append at (ap length (encodes_more cs i h)))

pub encodes_short : (cs : List ℕ) → length (encodes cs) ≤ 4 * length cs
encodes_short [] = omega arith
encodes_short (c ∷ cs) = let b = (len_utf8_bounds c).1 in let e = length-append (encode c) (encodes cs) in let n = length-encode c in let r = encodes_short cs in omega arith

-- the next character written after those before it
pub next_written : (old now part cs : List ℕ) (at end n i : ℕ) → i < length cs → at ≤ length old → end ≡ at + length (encodes (take i cs)) → now ≡ written_at at (encodes (take i cs)) old
    → part ≡ encode (get_or cs i 0) → n ≡ length part → put_mid end n now part ≡ written_at at (encodes (take (i + 1) cs)) old
next_written old now part cs at end n i h l a w p e =
    put_written now part part end n refl e ∙ ap (λ m. written_at m part now) a ∙ ap (written_at (at + length (encodes (take i cs))) part) w
    ∙ written_more old (encodes (take i cs)) part at l
    ∙ ap (λ x. written_at at (encodes (take i cs) ++ x) old) p ∙ ap (λ x. written_at at x old) (sym (encodes_more cs i h))
