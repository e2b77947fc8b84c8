-- Lines of history become drafts.
use Rattle.std.proofs.Common.{◌≡◌, ℕ, ◌+◌, ◌-◌, ◌<◌, ◌≤◌, Bool, true, false, cond, eqb, leb, List, [], ◌∷◌, ◌++◌, map, length, IfSome, Some, None, Option, refl, append-nil, arith, lit<}
use lib.Utf8.{scalar, scalars, low_scalar}
use Rattle.std.specs.Option.{option_to_list}
use Rattle.std.proofs.lemmas.Bool.{and_parts, and_from, le-leb, leb-true}
use Rattle.std.proofs.lemmas.Bool.Decides.{nat_tests}
use Rattle.text.specs.Scalars.{within}
use Rattle.text.specs.Utf8.{characters, well_formed}
use Rattle.text.proofs.Spellings.{well_formed_decides, spelled_is_encoding, characters_spelled}
use Rattle.draft.specs.declared.state.PromptState.{PromptState}
use Rattle.draft.specs.Line.{capacity, line}
use Rattle.draft.specs.Draft.{draft_of}
use Rattle.draft.specs.Edits.{inserting, insertion_refused}
use Rattle.draft.proofs.Drafts.{same_draft}
use Rattle.draft.proofs.Scalars.{scalars_append}
use Rattle.history.specs.declared.loader.Loader.{Loader}
use Rattle.history.specs.declared.loader.Loader.TheVariants.{Plain, AfterBackslash, TwoWanted, OneWanted}
use Rattle.history.specs.Limits.{longest_line, most_drafts}
use Rattle.history.specs.Loading.{backslash, small_x, plus, hex_value, first_value, paired, code_of, stepped, added, load_from, load}
use Rattle.history.specs.Readable.{loaded, loadable, readable}
use Rattle.history.specs.Session.{empty_draft, remembered, remembered_texts}

-- What is loaded from scalar values is scalar values.
abbrev Below : ℕ → Option ℕ → Type 0
Below n o = IfSome o (λ v. v < n)

below_if : (b : Bool) (v : ℕ) (o : Option ℕ) → (b ≡ true → v < 16) → Below 16 o → Below 16 (cond b (Some v) o)
below_if true v o h k = h refl
below_if false v o h k = k

hex_below : (c : ℕ) → Below 16 (hex_value c)
hex_below c =
    below_if (within 0x30 0x39 c) (c - 0x30) _ (λ t. grind (arith, nat_tests))
    (below_if (within 0x41 0x46 c) (c - 0x37) _ (λ t. grind (arith, nat_tests))
    (below_if (within 0x61 0x66 c) (c - 0x57) None (λ t. grind (arith, nat_tests)) tt))

first_below : (c : ℕ) → Below 16 (first_value c)
first_below c = below_if (eqb c plus) 0 (hex_value c) (λ _. lit< tt) (hex_below c)

paired_below : (high low : Option ℕ) → Below 16 high → Below 16 low → Below 256 (paired high low)
paired_below None low h l = tt
paired_below (Some high) None h l = tt
paired_below (Some high) (Some low) h l = omega arith

scalar_if_below : (o : Option ℕ) → Below 256 o → scalars (option_to_list o) ≡ true
scalar_if_below None h = refl
scalar_if_below (Some v) h = and_from (scalar v) true (low_scalar v (omega arith)) refl

scalar_if_itself : (b : Bool) (c : ℕ) → scalar c ≡ true → scalars (option_to_list (cond b None (Some c))) ≡ true
scalar_if_itself true c s = refl
scalar_if_itself false c s = and_from (scalar c) true s refl

added_scalar : (loader : Loader) (c : ℕ) → scalar c ≡ true → scalars (option_to_list (added loader c)) ≡ true
added_scalar Plain c s = scalar_if_itself (eqb c backslash) c s
added_scalar AfterBackslash c s = scalar_if_itself (eqb c small_x) c s
added_scalar TwoWanted c s = refl
added_scalar (OneWanted first) c s = scalar_if_below (code_of first c) (paired_below (first_value first) (hex_value c) (first_below first) (hex_below c))

scalars_load_from : (loader : Loader) (cs : List ℕ) → scalars cs ≡ true → scalars (load_from loader cs) ≡ true
scalars_load_from loader [] h = refl
scalars_load_from loader (c ∷ cs) h =
    let parts = and_parts (scalar c) (scalars cs) h in
    scalars_append (option_to_list (added loader c)) (load_from (stepped loader c) cs) (added_scalar loader c parts.0) (scalars_load_from (stepped loader c) cs parts.1)

-- What a readable line loads to is a draft's text.
pub record DraftText (text : List ℕ) : Type 0 where
  pub scalar_values : scalars text ≡ true
  pub short : length text ≤ capacity

pub readable_loads : (line : List ℕ) → readable line ≡ true → DraftText (loaded line)
unfolding readable load
readable_loads line good =
    let parts = and_parts (well_formed line) (leb (length (loaded line)) capacity) (and_parts (leb (length line) longest_line) (loadable line) good).1 in
    record {
      scalar_values = scalars_load_from Plain (characters line) (spelled_is_encoding (characters_spelled ((well_formed_decides line).0 parts.0))).0;
      short = leb-true _ _ parts.1;
    }

pub readable_is_loadable : (line : List ℕ) → readable line ≡ true → loadable line ≡ true
unfolding readable
readable_is_loadable line good = (and_parts (leb (length line) longest_line) (loadable line) good).1

pub nothing_refused : (text : List ℕ) → DraftText text → insertion_refused text empty_draft ≡ None
nothing_refused text good =
    let fits : leb (0 + length text) capacity ≡ true = le-leb _ _ (omega (arith, good.short)) in
    let all = good.scalar_values in
    rw (all, fits)

-- inserted into an empty draft, a text has its place at the end
pub inserted_whole : (text : List ℕ) → inserting text empty_draft ≡ remembered text
inserted_whole text = same_draft _ _ _ _ _ _ (append-nil text) (omega arith) (omega arith)

-- The drafts so far, and then those of the lines that are still to be read, are all that are remembered.
pub record RememberedSoFar (history : List ℕ) (drafts : List PromptState) (lines : List (List ℕ)) : Type 0 where
  pub whole : map draft_of drafts ++ map remembered (map loaded lines) ≡ map remembered (remembered_texts history)
  pub few : length drafts + length lines < most_drafts
