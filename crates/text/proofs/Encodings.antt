-- An encoding that is written to the front of a buffer, byte by byte.
use Rattle.std.proofs.Common.{◌≡◌, ℕ, ◌≤◌, true, List, ◌++◌, length, take, drop, Ok, sym, refl, ap, ◌∙◌, subst, zero-add}
use lib.Seq.{sets, sets-eq}
use lib.Utf8.{scalar, encode}
use Rattle.std.proofs.lemmas.List.{take_all, take_at}
use Rattle.std.proofs.lemmas.Bool.{cond-true}
use Rattle.text.specs.Utf8.{Sequence, overwritten, encoded}
use Rattle.text.proofs.Sequences.{encoding_is_sequence}

pub record Written (code : ℕ) (bytes old : List ℕ) : Type 0 where
  pub value : Ok (length bytes) ≡ encoded code
  pub is_sequence : Sequence (take (length bytes) (sets old 0 bytes)) code
  pub written : sets old 0 bytes ≡ overwritten old (encode code)

pub encoding_written : (code : ℕ) (bytes old : List ℕ) → scalar code ≡ true → bytes ≡ encode code → length bytes ≤ length old → Written code bytes old
encoding_written code bytes old s e fits =
    let front : sets old 0 bytes ≡ bytes ++ drop (length bytes) old = sets-eq bytes old 0 (rw zero-add fits) ∙ ap (λ n. bytes ++ drop n old) (zero-add (length bytes)) in
    let read : take (length bytes) (sets old 0 bytes) ≡ bytes = ap (take (length bytes)) front ∙ take_at bytes (drop (length bytes) old) (length bytes) refl in
    record {
      value = ap (λ l. Ok (length l)) e ∙ sym (cond-true (scalar code) _ _ s);
      is_sequence = subst (λ l. Sequence l code) (sym e ∙ sym read) (encoding_is_sequence code s);
      written = front ∙ ap (λ l. l ++ drop (length bytes) old) (sym (take_all (length old) bytes fits)) ∙ ap (overwritten old) e;
    }
