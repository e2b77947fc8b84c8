-- Bytes and the values that they spell: there is one spelling, and a longest front.
use Rattle.std.proofs.Common.{◌≡◌, ℕ, zero, suc, ◌<◌, ◌≤◌, true, ◌⊎◌, List, [], ◌∷◌, ◌++◌, length, take, Decides, sym, refl, ap, ◌∙◌, subst, inl, inr, ⊎_elim, append_assoc, append-nil, arith, length-append}
use lib.Utf8.{scalar, scalars, encodes}
use Rattle.std.specs.Str.{bytes_eq}
use Rattle.std.proofs.lemmas.Slice.Eq.{bytes_eq-Decides}
use Rattle.std.proofs.lemmas.Bool.{and_parts, and_from, cases_order, cases_lt, cond_both}
use Rattle.std.proofs.lemmas.Str.{chars-encodes}
use Rattle.std.proofs.lemmas.Bool.Decides.{not_from_Decides}
use Rattle.text.specs.Utf8.{Sequence, Spells, nothing, then, WellFormed, LongestFront, Begins, NoneBegins, characters, well_formed, front_up_to, front_length}
use Rattle.text.proofs.Sequences.{sequence_is_encoding, encoding_is_sequence, first_is_one, sequence_not_empty}

-- What spells values is their encoding, and they are scalar values ..
pub spelled_is_encoding : {bytes values : List ℕ} → Spells bytes values → (scalars values ≡ true) × (bytes ≡ encodes values)
spelled_is_encoding nothing = (refl, refl)
spelled_is_encoding (then {values = values} {c = c} row more) =
    let first = sequence_is_encoding row in
    let rest = spelled_is_encoding more in
    (and_from (scalar c) (scalars values) first.0 rest.0, λ i. first.1 i ++ rest.1 i)

-- .. and the encoding of scalar values spells them.
pub encoding_is_spelled : (values : List ℕ) → scalars values ≡ true → Spells (encodes values) values
encoding_is_spelled [] h = nothing
encoding_is_spelled (c ∷ values) h =
    let parts = and_parts (scalar c) (scalars values) h in
    then (encoding_is_sequence c parts.0) (encoding_is_spelled values parts.1)

pub one_spelling : {bytes values : List ℕ} → Spells bytes values → values ≡ characters bytes
one_spelling {bytes} {values} s = let e = spelled_is_encoding s in sym (chars-encodes values e.0) ∙ ap characters (sym e.1)

pub characters_spelled : {bytes : List ℕ} → WellFormed bytes → Spells bytes (characters bytes)
characters_spelled {bytes} (values, s) = subst (λ v. Spells bytes v) (one_spelling s) s

-- One sequence more at the end.
pub spells_more : {s t values : List ℕ} {c : ℕ} → Spells s values → Sequence t c → Spells (s ++ t) (values ++ c ∷ [])
spells_more {t = t} {c = c} nothing row = subst (λ l. Spells l (c ∷ [])) (append-nil t) (then row nothing)
spells_more {t = t} (then {s = s} {bytes = bytes} {values = values} first more) row = rw append_assoc (then first (spells_more more row))

-- One sequence taken from the front.
pub spelled_first : {bytes values : List ℕ} (c : ℕ) (rest : List ℕ) → Spells bytes values → Begins bytes c rest → (others : List ℕ) × (values ≡ c ∷ others) × Spells rest others
spelled_first c rest nothing (s, row, e) = absurd (omega (arith, sequence_not_empty row, length-append s rest, ap length e))
spelled_first c rest (then {bytes = bytes} {values = values} {c = d} first more) (s, row, e) =
    let same = first_is_one bytes rest first row e in
    (values, ap (λ v. v ∷ values) same.1, subst (λ l. Spells l values) same.2 more)

-- Where none begins what is left, no front is longer than what was read.
pub longest_read : {s t values others : List ℕ} (rest x : List ℕ) → Spells s values → Spells t others → s ++ rest ≡ t ++ x → NoneBegins rest → length t ≤ length s
longest_read rest x nothing nothing e none = omega arith
longest_read rest x nothing (then {s = t} {bytes = bytes} {c = c} row more) e none =
    absurd (none c (bytes ++ x) (t, row, e ∙ append_assoc t bytes x))
longest_read rest x (then row more) nothing e none = omega arith
longest_read rest x (then {s = s} {bytes = bytes} row more) (then {s = t} {bytes = others} row' more') e none =
    let same = first_is_one (bytes ++ rest) (others ++ x) row row' (sym (append_assoc s bytes rest) ∙ e ∙ append_assoc t others x) in
    let on = longest_read rest x more more' same.2 none in
    omega (arith, length-append s bytes, length-append t others, ap length same.0)

-- The test and the function for what the definitions say.
pub well_formed_decides : (bytes : List ℕ) → Decides (well_formed bytes) (WellFormed bytes)
unfolding well_formed
well_formed_decides bytes = (found, passes)
  where
    found : well_formed bytes ≡ true → WellFormed bytes
    found e =
        let parts = and_parts (scalars (characters bytes)) (bytes_eq (encodes (characters bytes)) bytes) e in
        let same : encodes (characters bytes) ≡ bytes = (bytes_eq-Decides (encodes (characters bytes)) bytes).0 parts.1 in
        (characters bytes, subst (λ l. Spells l (characters bytes)) same (encoding_is_spelled (characters bytes) parts.0))

    passes : WellFormed bytes → well_formed bytes ≡ true
    passes w =
        let e = spelled_is_encoding (characters_spelled w) in
        and_from (scalars (characters bytes)) (bytes_eq (encodes (characters bytes)) bytes) e.0 ((bytes_eq-Decides (encodes (characters bytes)) bytes).1 (sym e.1))

pub one_longest_front : (bytes : List ℕ) (m n : ℕ) → LongestFront bytes m → LongestFront bytes n → m ≡ n
one_longest_front bytes m n p q = by (cases_order m n)
  where
    by : (m ≡ n) ⊎ ((m < n) ⊎ (n < m)) → m ≡ n
    by (inl e) = e
    by (inr (inl h)) = absurd (p.longest n h q.fits q.front)
    by (inr (inr h)) = absurd (q.longest m h p.fits p.front)

front_up_to_is : (n : ℕ) (bytes : List ℕ) → n ≤ length bytes → ((m : ℕ) → n < m → m ≤ length bytes → WellFormed (take m bytes) → ⊥) → LongestFront bytes (front_up_to n bytes)
front_up_to_is zero bytes h longer = record { fits = omega arith; front = ([], nothing); longest = longer }
front_up_to_is (suc n) bytes h longer =
    cond_both (well_formed (take (suc n) bytes)) (suc n) (front_up_to n bytes) (λ i. LongestFront bytes i)
    (λ e. record { fits = h; front = (well_formed_decides (take (suc n) bytes)).0 e; longest = longer })
    (λ e. front_up_to_is n bytes (omega arith) (λ m l k w. ⊎_elim
    (λ past. longer m past k w)
    (λ at.
    let here : m ≡ suc n = omega arith in
    not_from_Decides _ (well_formed_decides (take (suc n) bytes)) e (subst (λ i. WellFormed (take i bytes)) here w))
    (cases_lt (suc n) m)))

pub front_length_is : (bytes : List ℕ) → LongestFront bytes (front_length bytes)
unfolding front_length
front_length_is bytes = front_up_to_is (length bytes) bytes (omega arith) (λ m l h w. omega arith)
