-- A saved text is given back. Its spelling is the UTF-8 of characters, and those load to the text.
use Rattle.std.proofs.Common.{◌≡◌, ℕ, ◌+◌, ◌*◌, ◌/◌, ◌%◌, ◌<◌, ◌≤◌, true, false, eqb, ◌⊎◌, List, [], ◌∷◌, ◌++◌, length, Some, sym, refl, ap, ◌∙◌, subst, inl, inr, append-nil, arith}
use lib.Utf8.{scalar, scalars, encode, encodes, low_scalar}
use Rattle.std.specs.Option.{option_to_list}
use Rattle.std.specs.List.{AllByRecursion}
use Rattle.std.proofs.ByRecursion.{All-append}
use Rattle.std.proofs.lemmas.List.{length-append}
use Rattle.std.proofs.lemmas.Bool.{and_parts, and_from, cases_Bool, eqb-true, eqb-false, cond-true, cond-false, le-leb}
use Rattle.std.proofs.lemmas.Str.{encode_ascii, encodes-append, chars-encodes, length-encode, len_utf8_bounds}
use Rattle.std.proofs.lemmas.Bool.Decides.{nat_tests}
use Rattle.text.specs.Hex.{hex_digit}
use Rattle.text.specs.Utf8.{Sequence, single, pair, triple, quad, characters, well_formed}
use Rattle.text.proofs.Sequences.{encoding_is_sequence}
use Rattle.text.proofs.Spellings.{well_formed_decides, encoding_is_spelled}
use Rattle.draft.specs.Line.{capacity}
use Rattle.draft.proofs.Scalars.{scalars_append}
use Rattle.history.specs.declared.loader.Loader.TheVariants.{Plain}
use Rattle.history.specs.Limits.{longest_line, longest_spelling}
use Rattle.history.specs.Loading.{backslash, small_x, hex_value, first_value, paired, code_of, load_from, load}
use Rattle.history.specs.Readable.{loaded, readable}
use Rattle.history.specs.Spelling.{is_control, spelled_character, spell}
use Rattle.history.specs.Laws.{Clean, DraftText}
use Rattle.history.proofs.Machine.{as_itself}

-- The cases of a spelling.
data Spelled (c : ℕ) : List ℕ → Type 0 where
  doubled : c ≡ backslash → Spelled c (backslash ∷ backslash ∷ [])
  by_code : c < 0x80 → Spelled c (backslash ∷ small_x ∷ hex_digit (c / 16) ∷ hex_digit (c % 16) ∷ [])
  as_utf8 : (c ≡ backslash → ⊥) → 0x20 ≤ c → (c ≡ 0x7F → ⊥) → Spelled c (encode c)

spelled_so : (c : ℕ) → Spelled c (spelled_character c)
spelled_so c = by (cases_Bool (eqb c backslash)) (cases_Bool (is_control c))
  where
    by : (eqb c backslash ≡ true) ⊎ (eqb c backslash ≡ false) → (is_control c ≡ true) ⊎ (is_control c ≡ false) → Spelled c (spelled_character c)
    by (inl e) _ = subst (Spelled c) (sym (cond-true (eqb c backslash) _ _ e)) (doubled (eqb-true c backslash e))
    by (inr e) (inl f) = subst (Spelled c) (sym (cond-false (eqb c backslash) _ _ e ∙ cond-true (is_control c) _ _ f)) (by_code (grind (arith, nat_tests)))
    by (inr e) (inr f) =
        subst (Spelled c) (sym (cond-false (eqb c backslash) _ _ e ∙ cond-false (is_control c) _ _ f))
        (as_utf8 (eqb-false c backslash e) (grind (arith, nat_tests)) (λ z. grind (arith, nat_tests)))

-- a hex digit has its value again, and is no +
hex_again : (d : ℕ) → d < 16 → hex_value (hex_digit d) ≡ Some d
hex_again d h = grind (arith, nat_tests)

first_again : (d : ℕ) → d < 16 → first_value (hex_digit d) ≡ Some d
first_again d h = grind (arith, nat_tests)

code_again : (c : ℕ) → c < 0x80 → code_of (hex_digit (c / 16)) (hex_digit (c % 16)) ≡ Some c
code_again c h =
    let whole : c / 16 * 16 + c % 16 ≡ c = omega arith in
    (λ i. paired (first_again (c / 16) (omega arith) i) (hex_again (c % 16) (omega arith) i)) ∙ ap (λ n. Some n) whole

hex_digit_between : (d : ℕ) → d < 16 → (0x30 ≤ hex_digit d) × (hex_digit d ≤ 0x46)
hex_digit_between d h = grind (arith, nat_tests)

-- What a character's spelling is: the UTF-8 of characters that load to it, clean, and short.
record Saved (c : ℕ) (bytes : List ℕ) : Type 0 where
  chars : List ℕ
  are_scalars : scalars chars ≡ true
  encoded : bytes ≡ encodes chars
  load_again : (rest : List ℕ) → load_from Plain (chars ++ rest) ≡ c ∷ load_from Plain rest
  clean : AllByRecursion Clean bytes
  some : 0 < length bytes
  few : length bytes ≤ 4

ascii_is : (bs : List ℕ) → AllByRecursion (λ b. b < 0x80) bs → (scalars bs ≡ true) × (bs ≡ encodes bs)
ascii_is [] h = (refl, refl)
ascii_is (b ∷ bs) (l, h) =
    let on = ascii_is bs h in
    (and_from (scalar b) (scalars bs) (low_scalar b (omega arith)) on.0, (λ i. sym (encode_ascii b l) i ++ on.1 i))

sequence_clean : {s : List ℕ} {c : ℕ} → Sequence s c → 0x20 ≤ c → (c ≡ 0x7F → ⊥) → AllByRecursion Clean s
sequence_clean (single h) low other = ((low, other), tt)
sequence_clean (pair h) low other = ((omega arith, λ e. omega arith), ((omega arith, λ e. omega arith), tt))
sequence_clean (triple h) low other = ((omega arith, λ e. omega arith), ((omega arith, λ e. omega arith), ((omega arith, λ e. omega arith), tt)))
sequence_clean (quad h) low other = ((omega arith, λ e. omega arith), ((omega arith, λ e. omega arith), ((omega arith, λ e. omega arith), ((omega arith, λ e. omega arith), tt))))

saved_so : {c : ℕ} {bytes : List ℕ} → scalar c ≡ true → Spelled c bytes → Saved c bytes
saved_so {c} s (doubled e) =
    let is = ascii_is (backslash ∷ backslash ∷ []) (omega arith, (omega arith, tt)) in
    record {
      chars = backslash ∷ backslash ∷ [];
      are_scalars = is.0;
      encoded = is.1;
      load_again = λ rest. ap (λ x. x ∷ load_from Plain rest) (sym e);
      clean = ((omega arith, λ z. omega arith), ((omega arith, λ z. omega arith), tt));
      some = omega arith;
      few = omega arith;
    }
saved_so {c} s (by_code h) =
    let high = hex_digit_between (c / 16) (omega arith) in
    let low = hex_digit_between (c % 16) (omega arith) in
    let bytes = backslash ∷ small_x ∷ hex_digit (c / 16) ∷ hex_digit (c % 16) ∷ [] in
    let is = ascii_is bytes (omega arith, (omega arith, (omega arith, (omega arith, tt)))) in
    record {
      chars = bytes;
      are_scalars = is.0;
      encoded = is.1;
      load_again = λ rest. ap (λ o. option_to_list o ++ load_from Plain rest) (code_again c h);
      clean = ((omega arith, λ z. omega arith), ((omega arith, λ z. omega arith), ((omega arith, λ z. omega arith), ((omega arith, λ z. omega arith), tt))));
      some = omega arith;
      few = omega arith;
    }
saved_so {c} s (as_utf8 other low same) =
    let long = length-encode c in
    let bounds = len_utf8_bounds c in
    record {
      chars = c ∷ [];
      are_scalars = and_from (scalar c) true s refl;
      encoded = sym (append-nil (encode c));
      load_again = λ rest. as_itself c rest other;
      clean = sequence_clean (encoding_is_sequence c s) low same;
      some = omega arith;
      few = omega arith;
    }

-- The same of a text.
record SavedText (text bytes : List ℕ) : Type 0 where
  chars : List ℕ
  are_scalars : scalars chars ≡ true
  encoded : bytes ≡ encodes chars
  load_again : load_from Plain chars ≡ text
  clean : AllByRecursion Clean bytes
  short : length bytes ≤ 4 * length text
  long : length text ≤ length bytes

text_saved : (text : List ℕ) → scalars text ≡ true → SavedText text (spell text)
unfolding spell
text_saved [] h = record { chars = []; are_scalars = refl; encoded = refl; load_again = refl; clean = tt; short = omega arith; long = omega arith }
text_saved (c ∷ cs) h =
    let parts = and_parts (scalar c) (scalars cs) h in
    let first = saved_so parts.0 (spelled_so c) in
    let rest = text_saved cs parts.1 in
    let size = length-append (spelled_character c) (spell cs) in
    record {
      chars = first.chars ++ rest.chars;
      are_scalars = scalars_append first.chars rest.chars first.are_scalars rest.are_scalars;
      encoded = (λ i. first.encoded i ++ rest.encoded i) ∙ sym (encodes-append first.chars rest.chars);
      load_again = first.load_again rest.chars ∙ ap (λ l. c ∷ l) rest.load_again;
      clean = All-append Clean (spelled_character c) (spell cs) first.clean rest.clean;
      short = omega (arith, first.few, rest.short);
      long = omega (arith, first.some, rest.long);
    }

pub gives_back : (text : List ℕ) → scalars text ≡ true → loaded (spell text) ≡ text
unfolding load
gives_back text h =
    let saved = text_saved text h in
    ap (λ l. load_from Plain (characters l)) saved.encoded ∙ ap (load_from Plain) (chars-encodes saved.chars saved.are_scalars) ∙ saved.load_again

pub spelling_clean : (text : List ℕ) → scalars text ≡ true → AllByRecursion Clean (spell text)
spelling_clean text h = (text_saved text h).clean

pub spelling_not_empty : (text : List ℕ) → scalars text ≡ true → 0 < length text → 0 < length (spell text)
spelling_not_empty text h some = omega (arith, (text_saved text h).long)

pub spelling_readable : (text : List ℕ) → DraftText text → readable (spell text) ≡ true
unfolding readable
spelling_readable text (h, few) =
    let saved = text_saved text h in
    let good : well_formed (spell text) ≡ true = ap well_formed saved.encoded ∙ (well_formed_decides (encodes saved.chars)).1 (saved.chars, encoding_is_spelled saved.chars saved.are_scalars) in
    and_from _ _ (le-leb (length (spell text)) longest_line (omega (arith, saved.short)))
    (and_from _ _ good (le-leb (length (loaded (spell text))) capacity (omega (arith, ap length (gives_back text h)))))

pub saved_alike : (text other : List ℕ) → scalars text ≡ true → scalars other ≡ true → (spell text ≡ spell other → text ≡ other) × (text ≡ other → spell text ≡ spell other)
saved_alike text other h k = (λ e. sym (gives_back text h) ∙ ap loaded e ∙ gives_back other k, ap spell)

pub spelling_short : (text : List ℕ) → DraftText text → length (spell text) ≤ longest_spelling
spelling_short text (h, few) = omega (arith, (text_saved text h).short)
