-- A part written over bytes.
use Rattle.std.proofs.Common.{◌≡◌, ℕ, ◌+◌, ◌≤◌, List, ◌++◌, length, take, drop, sym, refl, ap, ◌∙◌, append_assoc, arith}
use borrow.Rule.Slice.PartMut.{put_mid}
use Rattle.std.proofs.Math.Seq.{paste}
use Rattle.std.proofs.lemmas.List.{length-append, take-append-le, take-take, drop_at, length-take-le, take_all}
use Rattle.std.proofs.lemmas.List.Edits.{paste_all, paste-paste, take-paste, drop-paste, length-paste}
use Rattle.std.proofs.lemmas.Slice.{put_mid-paste}
use Rattle.recorder.specs.Log.{written_at}

-- a write to a part of a slice
pub put_written : (old new part : List ℕ) (at n : ℕ) → new ≡ part → n ≡ length part → put_mid at n old new ≡ written_at at part old
put_written old new part at n e l = put_mid-paste at n old new part n e refl l ∙ paste_all old at part n l ∙ ap (λ m. take at old ++ (part ++ drop (at + m) old)) l

-- one part after another
pub written_more : (old p q : List ℕ) (at : ℕ) → at ≤ length old → written_at (at + length p) q (written_at at p old) ≡ written_at at (p ++ q) old
written_more old p q at l =
    sym (paste_all (written_at at p old) (at + length p) q (length q) refl)
    ∙ ap (λ x. paste x (at + length p) q (length q)) (sym (paste_all old at p (length p) refl))
    ∙ paste-paste old at p q (length p) (length q) refl refl l
    ∙ paste_all old at (p ++ q) (length p + length q) (omega (arith, length-append p q))
    ∙ ap (λ m. take at old ++ (p ++ q ++ drop (at + m) old)) (omega (arith, length-append p q))

-- one part before another
pub written_before : (old p q : List ℕ) (at : ℕ) → at + length p ≤ length old → written_at at p (written_at (at + length p) q old) ≡ written_at at (p ++ q) old
written_before old p q at l =
    let front = take (at + length p) old in
    let back = q ++ drop (at + length p + length q) old in
    let n : length front ≡ at + length p = length-take-le (at + length p) old l in
    let a : take at (front ++ back) ≡ take at old = take-append-le at front back (omega arith) ∙ take-take at (at + length p) old (omega arith) in
    let b : drop (at + length p) (front ++ back) ≡ back = drop_at front back (at + length p) n in
    ap (λ x. x ++ (p ++ drop (at + length p) (front ++ back))) a ∙ ap (λ x. take at old ++ (p ++ x)) b
    ∙ ap (λ x. take at old ++ x) (sym (append_assoc p q (drop (at + length p + length q) old)))
    ∙ ap (λ m. take at old ++ (p ++ q ++ drop m old)) (omega (arith, length-append p q))

pub take_written : (old p : List ℕ) (at : ℕ) → at ≤ length old → take (at + length p) (written_at at p old) ≡ take at old ++ p
take_written old p at l =
    ap (take (at + length p)) (sym (paste_all old at p (length p) refl)) ∙ take-paste old at p (length p) l (omega arith) ∙ ap (λ x. take at old ++ x) (take_all (length p) p (omega arith))

pub drop_written : (old p : List ℕ) (at : ℕ) → at ≤ length old → drop (at + length p) (written_at at p old) ≡ drop (at + length p) old
drop_written old p at l = ap (drop (at + length p)) (sym (paste_all old at p (length p) refl)) ∙ drop-paste old at p (length p) l (omega arith)

pub length_written : (old p : List ℕ) (at : ℕ) → at + length p ≤ length old → length (written_at at p old) ≡ length old
length_written old p at l = ap length (sym (paste_all old at p (length p) refl)) ∙ length-paste old at p (length p) l (omega arith)
