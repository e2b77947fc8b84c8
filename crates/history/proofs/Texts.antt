-- The text that is loaded from a line, character by character.
use Rattle.std.proofs.Common.{◌≡◌, ℕ, ◌+◌, ◌<◌, ◌≤◌, Bool, true, false, eqb, List, [], ◌∷◌, ◌++◌, length, is_some, IfSome, Some, None, Option, Decides, sym, refl, ap, ◌∙◌, subst, ⊎_elim, append_assoc, append-nil, arith}
use Rattle.std.specs.Bool.{then_some}
use Rattle.std.specs.Option.{option_to_list}
use Rattle.std.proofs.lemmas.List.{nil_from_length, length-append, length_push}
use Rattle.std.proofs.lemmas.Bool.{eqb-true, eqb-false, and_from, le-leb, lt-leb, cases_Bool, and_left, and_right}
use Rattle.text.specs.Utf8.{Spells, nothing, then, WellFormed, Begins, NoneBegins, well_formed}
use Rattle.text.proofs.Spellings.{one_spelling, characters_spelled, spells_more, spelled_first, well_formed_decides, longest_read}
use Rattle.draft.specs.Line.{capacity}
use Rattle.history.specs.declared.loader.Loader.{Loader}
use Rattle.history.specs.declared.loader.Loader.TheVariants.{Plain}
use Rattle.history.specs.Loading.{load_from, load, stepped, added}
use Rattle.history.specs.Readable.{loadable, loaded}

false_from_decides : {P : Type 0} (r : Bool) → Decides r P → (P → ⊥) → r ≡ false
false_from_decides r d never = ⊎_elim (λ t. absurd (never (d.0 t))) (λ f. f) (cases_Bool r)

-- The bytes before `rest` were read, and load to `text`.
pub record LoadedSoFar (bytes rest : List ℕ) (loader : Loader) (text : List ℕ) : Type 0 where
  pub read : List ℕ
  pub values : List ℕ
  pub spelled : Spells read values
  pub whole : bytes ≡ read ++ rest
  pub fits : length text ≤ capacity
  pub loads : (others : List ℕ) → load_from Plain (values ++ others) ≡ text ++ load_from loader others

pub loaded_none : (bytes : List ℕ) → LoadedSoFar bytes bytes Plain []
loaded_none bytes = record { read = []; values = []; spelled = nothing; whole = refl; fits = omega arith; loads = λ others. refl }

module _ (bytes rest : List ℕ) (loader : Loader) (text : List ℕ) (c : ℕ) (after : List ℕ) (sofar : LoadedSoFar bytes rest loader text) (begins : Begins rest c after) where
  one_more : (others : List ℕ) → load_from Plain ((sofar.values ++ c ∷ []) ++ others) ≡ text ++ (option_to_list (added loader c) ++ load_from (stepped loader c) others)
  one_more others = ap (load_from Plain) (append_assoc sofar.values (c ∷ []) others) ∙ sofar.loads (c ∷ others)

  whole_again : bytes ≡ (sofar.read ++ begins.0) ++ after
  whole_again = sofar.whole ∙ ap (λ l. sofar.read ++ l) begins.2 ∙ sym (append_assoc sofar.read begins.0 after)

  pub nothing_loaded_more : (next : Loader) → next ≡ stepped loader c → None ≡ added loader c → LoadedSoFar bytes after next text
  nothing_loaded_more next e none = record {
    read = sofar.read ++ begins.0;
    values = sofar.values ++ c ∷ [];
    spelled = spells_more sofar.spelled begins.1;
    whole = whole_again;
    fits = sofar.fits;
    loads = λ others. one_more others ∙ sym (λ i. text ++ (option_to_list (none i) ++ load_from (e i) others));
  }

  pub one_loaded_more : (next : Loader) (code : ℕ) → next ≡ stepped loader c → Some code ≡ added loader c → length text < capacity → LoadedSoFar bytes after next (text ++ code ∷ [])
  one_loaded_more next code e some room = record {
    read = sofar.read ++ begins.0;
    values = sofar.values ++ c ∷ [];
    spelled = spells_more sofar.spelled begins.1;
    whole = whole_again;
    fits = omega (arith, length_push text code);
    loads = λ others.
        one_more others ∙ sym (λ i. text ++ (option_to_list (some i) ++ load_from (e i) others))
        ∙ sym (append_assoc text (code ∷ []) (load_from next others));
  }

-- what is given only where a test holds
pub if_then_some : {X : Type 0} (b : Bool) (x : X) (P : X → Type 0) → (b ≡ true → P x) → (is_some (then_some b x) ≡ b) × IfSome (then_some b x) P
if_then_some true x P h = (refl, h refl)
if_then_some false x P h = (refl, tt)

-- What is left of well-formed bytes spells the other values.
spelled_after : {read values bytes chars : List ℕ} (rest : List ℕ) → Spells read values → bytes ≡ read ++ rest → Spells bytes chars → (others : List ℕ) × (chars ≡ values ++ others) × Spells rest others
spelled_after {chars = chars} rest nothing e whole = (chars, refl, subst (λ l. Spells l chars) e whole)
spelled_after rest (then {s = s} {bytes = bytes} {values = values} {c = c} row more) e whole =
    let first = spelled_first c (bytes ++ rest) whole (s, row, e ∙ append_assoc s bytes rest) in
    let on = spelled_after rest more refl first.2 in
    (on.0, first.1 ∙ ap (λ l. c ∷ l) on.1, on.2)

module _ (bytes rest : List ℕ) (loader : Loader) (text : List ℕ) (sofar : LoadedSoFar bytes rest loader text) where
  -- the bytes are read through
  pub loaded_whole : length rest ≡ 0 → (loadable bytes ≡ true) × (text ≡ loaded bytes)
  unfolding load
  loaded_whole none =
      let all : bytes ≡ sofar.read = sofar.whole ∙ ap (λ l. sofar.read ++ l) (nil_from_length rest none) ∙ append-nil sofar.read in
      let spelled : Spells bytes sofar.values = subst (λ l. Spells l sofar.values) (sym all) sofar.spelled in
      let is : text ≡ loaded bytes = sym (append-nil text) ∙ sym (sofar.loads []) ∙ ap (load_from Plain) (append-nil sofar.values ∙ one_spelling spelled) in
      (and_from (well_formed bytes) _ ((well_formed_decides bytes).1 (sofar.values, spelled)) (le-leb (length (loaded bytes)) capacity (omega (arith, sofar.fits, ap length is))), is)

  -- no character begins what is left
  pub loaded_to_the_end : NoneBegins rest → eqb (length rest) 0 ≡ loadable bytes
  loaded_to_the_end none = ⊎_elim read_through stuck (cases_Bool (eqb (length rest) 0))
    where
      read_through : eqb (length rest) 0 ≡ true → eqb (length rest) 0 ≡ loadable bytes
      read_through e = e ∙ sym (loaded_whole (eqb-true (length rest) 0 e)).0

      stuck : eqb (length rest) 0 ≡ false → eqb (length rest) 0 ≡ loadable bytes
      stuck e =
          let some = eqb-false (length rest) 0 e in
          let ill : WellFormed bytes → ⊥ = λ w. omega (arith, some, longest_read rest [] sofar.spelled w.1 (sym sofar.whole ∙ sym (append-nil bytes)) none, length-append sofar.read rest, ap length sofar.whole) in
          e ∙ sym (and_left (well_formed bytes) _ (false_from_decides _ (well_formed_decides bytes) ill))

  -- a character comes that a draft has no room for
  pub loaded_too_many : (c : ℕ) (after : List ℕ) (code : ℕ) → Begins rest c after → Some code ≡ added loader c → length text ≡ capacity → loadable bytes ≡ false
  unfolding load
  loaded_too_many c after code begins some full = ⊎_elim too_many (λ ill. and_left (well_formed bytes) _ ill) (cases_Bool (well_formed bytes))
    where
      too_many : well_formed bytes ≡ true → loadable bytes ≡ false
      too_many good =
          let left = spelled_after rest sofar.spelled sofar.whole (characters_spelled ((well_formed_decides bytes).0 good)) in
          let first = spelled_first c after left.2 begins in
          let more = load_from (stepped loader c) first.0 in
          let is : loaded bytes ≡ text ++ code ∷ more = ap (load_from Plain) (left.1 ∙ ap (λ l. sofar.values ++ l) first.1) ∙ sofar.loads (c ∷ first.0) ∙ ap (λ o. text ++ (option_to_list o ++ more)) (sym some) in
          and_right (well_formed bytes) _ (lt-leb (length (loaded bytes)) capacity (omega (arith, ap length is, length-append text (code ∷ more))))

-- The bytes before `rest` were read, and load to so many characters.
pub record CountedSoFar (bytes rest : List ℕ) (loader : Loader) (count : ℕ) : Type 0 where
  pub text : List ℕ
  pub sofar : LoadedSoFar bytes rest loader text
  pub counts : count ≡ length text

pub counted_none : (bytes : List ℕ) → CountedSoFar bytes bytes Plain 0
counted_none bytes = record { text = []; sofar = loaded_none bytes; counts = refl }

module _ (bytes rest : List ℕ) (loader : Loader) (count : ℕ) (c : ℕ) (after : List ℕ) (counted : CountedSoFar bytes rest loader count) (begins : Begins rest c after) where
  pub nothing_counted_more : (next : Loader) (answer : Option ℕ) → next ≡ stepped loader c → answer ≡ added loader c → is_some answer ≡ false → CountedSoFar bytes after next count
  nothing_counted_more next None e is none = record {
    text = counted.text;
    sofar = nothing_loaded_more bytes rest loader counted.text c after counted.sofar begins next e is;
    counts = counted.counts;
  }
  nothing_counted_more next (Some code) e is none = let never : true ≡ false = none in cc

  pub one_counted_more : (next : Loader) (answer : Option ℕ) → next ≡ stepped loader c → answer ≡ added loader c → is_some answer ≡ true → count < capacity → CountedSoFar bytes after next (count + 1)
  one_counted_more next None e is some room = let never : false ≡ true = some in cc
  one_counted_more next (Some code) e is some room = record {
    text = counted.text ++ code ∷ [];
    sofar = one_loaded_more bytes rest loader counted.text c after counted.sofar begins next code e is (omega (arith, counted.counts));
    counts = omega (arith, counted.counts, length_push counted.text code);
  }

  -- a character comes that a draft has no room for
  pub counted_too_many : (answer : Option ℕ) → answer ≡ added loader c → is_some answer ≡ true → count ≡ capacity → loadable bytes ≡ false
  counted_too_many None is some full = let never : false ≡ true = some in cc
  counted_too_many (Some code) is some full = loaded_too_many bytes rest loader counted.text counted.sofar c after code begins is (sym counted.counts ∙ full)
