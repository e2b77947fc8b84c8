-- Bytes that spell a text come in as that text does.
use Rattle.std.proofs.Common.{◌≡◌, ℕ, ◌≤◌, Bool, true, false, cond, List, length, take, drop, Ok, Err, Result, sym, refl, arith}
use lib.Utf8.{scalars}
use Rattle.std.proofs.lemmas.List.{take_all, take_at}
use Rattle.text.specs.declared.refusal.Refusal.{Refusal}
use Rattle.text.specs.Utf8.{Spells, characters, counted, well_formed, overwritten}
use Rattle.text.proofs.Spellings.{spelled_is_encoding}
use Rattle.draft.specs.Draft.{Draft}
use Rattle.draft.specs.Edits.{insertion_refused, pasting_refused}

-- a text that was written to a buffer with room for it stands at the buffer's front
pub front_is_written : (out xs : List ℕ) (n : ℕ) → n ≡ length xs → n ≤ length out → take n (overwritten out xs) ≡ xs
front_is_written out xs n e h =
    rw (take_all (length out) xs (omega arith)) (take_at xs (drop (length xs) out) n (sym e))

told_by : (b : Bool) (n m : ℕ) (e : Refusal) → ◌≡◌ {A = Result ℕ Refusal} (Ok n) (cond b (Ok m) (Err e)) → b ≡ true
told_by true n m e h = refl
told_by false n m e h = absurd (let z : ◌≡◌ {A = ℕ} 0 1 = cc in omega arith)

module _ (bytes : List ℕ) (d : Draft) (n : ℕ) (accepted : Ok n ≡ counted bytes) where
  is_well_formed : well_formed bytes ≡ true
  is_well_formed = told_by (well_formed bytes) n _ _ accepted

  pub pasted_as_inserted : Spells bytes (characters bytes) → pasting_refused bytes d ≡ insertion_refused (characters bytes) d
  pasted_as_inserted spelled =
      let a = is_well_formed in
      let b : scalars (characters bytes) ≡ true = (spelled_is_encoding spelled).0 in
      rw (a, b)
