-- The records that a row takes, as the calls of a recorder spell them.
use Rattle.std.proofs.Common.{◌≡◌, ℕ, ◌+◌, ◌-◌, ◌/◌, ◌%◌, ◌<◌, ◌≤◌, true, false, not, List, [], ◌∷◌, length, get_or, refl, ap, ◌∙◌, arith}
use lib.Utf8.{encodes, scalars}
use borrow.Rule.Slice.PartMut.{put_mid}
use Rattle.std.specs.Int.{w16, to_be_bytes}
use Rattle.std.proofs.lemmas.Bool.{lt-leb}
use Rattle.glass.specs.declared.PenChange.{PenChange}
use Rattle.glass.specs.Row.{widest}
use Rattle.glass.specs.Calls.{GlassCall, place, pen, text, clear, reshape, outside, no_scalar}
use Rattle.glass.proofs.Refusals.{some_width}
use Rattle.recorder.specs.Log.{RecordOf, pen_code, record_of, taken, written_at}
use Rattle.recorder.proofs.Writes.{put_written, written_before}

pub taken_from : (k : GlassCall) (w : ℕ) → outside k w ≡ false → no_scalar k ≡ false → taken k w ≡ true
taken_from k w a b = rw (a, b)

-- a number below 65,536 in its two bytes
pub two_bytes : (n : ℕ) → n < 65536 → to_be_bytes w16 n ≡ (n / 256) ∷ (n % 256) ∷ []
two_bytes n h = let e : n / 256 % 256 ≡ n / 256 = omega arith in ap (λ k. k ∷ (n % 256) ∷ []) e

abbrev pub place_record : (line column width : ℕ) (ls ks : List ℕ) → ls ≡ to_be_bytes w16 line → ks ≡ to_be_bytes w16 column → line < 65536 → column < width → width ≤ widest
    → RecordOf line width width (0 ∷ 5 ∷ 1 ∷ get_or ls 0 0 ∷ get_or ls 1 0 ∷ get_or ks 0 0 ∷ get_or ks 1 0 ∷ [])
place_record line column width ls ks a b l h n =
    let m : column < 65536 = omega arith in
    record { call = place column; spelled = rw (a ∙ two_bytes line l, b ∙ two_bytes column m); whole = taken_from (place column) width (lt-leb width column h) refl; wide = refl }

abbrev pub pen_record : (line width : ℕ) (change : PenChange) (code : ℕ) → code ≡ pen_code change → RecordOf line width width (0 ∷ 2 ∷ 2 ∷ code ∷ [])
pen_record line width change code e = record { call = pen change; spelled = ap (λ b. 0 ∷ 2 ∷ 2 ∷ b ∷ []) e; whole = taken_from (pen change) width refl refl; wide = refl }

abbrev pub text_record : (line width : ℕ) (cs : List ℕ) → scalars cs ≡ true → RecordOf line width width (record_of line (text cs))
text_record line width cs e = record { call = text cs; spelled = refl; whole = taken_from (text cs) width refl (ap not e); wide = refl }

abbrev pub clear_record : (line width : ℕ) → RecordOf line width width (0 ∷ 1 ∷ 4 ∷ [])
clear_record line width = record { call = clear; spelled = refl; whole = taken_from clear width refl refl; wide = refl }

abbrev pub reshape_record : (line before width : ℕ) (ws : List ℕ) → ws ≡ to_be_bytes w16 width → 1 ≤ width → width ≤ widest → RecordOf line before width (0 ∷ 3 ∷ 5 ∷ get_or ws 0 0 ∷ get_or ws 1 0 ∷ [])
reshape_record line before width ws e a b =
    let m : width < 65536 = omega arith in
    record { call = reshape width; spelled = rw (e ∙ two_bytes width m); whole = taken_from (reshape width) before (some_width width a b) refl; wide = refl }

-- the head of a text's record, written before the text that stands already
pub text_written : (old mid new cs hs : List ℕ) (line at end n : ℕ) → at + 3 ≤ length old → mid ≡ written_at (at + 3) (encodes cs) old → end ≡ at + 3 + length (encodes cs) → end - at - 2 < 65536
    → hs ≡ to_be_bytes w16 (end - at - 2) → new ≡ get_or hs 0 0 ∷ get_or hs 1 0 ∷ 3 ∷ [] → n ≡ 3 → put_mid at n mid new ≡ written_at at (record_of line (text cs)) old
text_written old mid new cs hs line at end n l m e f h w s =
    let d : end - at - 2 ≡ length (3 ∷ encodes cs) = omega arith in
    let b : new ≡ ((end - at - 2) / 256) ∷ ((end - at - 2) % 256) ∷ 3 ∷ [] = w ∙ ap (λ x. get_or x 0 0 ∷ get_or x 1 0 ∷ 3 ∷ []) (h ∙ two_bytes (end - at - 2) f) in
    put_written mid new (((end - at - 2) / 256) ∷ ((end - at - 2) % 256) ∷ 3 ∷ []) at n b s
    ∙ ap (written_at at (((end - at - 2) / 256) ∷ ((end - at - 2) % 256) ∷ 3 ∷ [])) m
    ∙ written_before old (((end - at - 2) / 256) ∷ ((end - at - 2) % 256) ∷ 3 ∷ []) (encodes cs) at l
    ∙ ap (λ k. written_at at ((k / 256) ∷ (k % 256) ∷ 3 ∷ encodes cs) old) d
