-- The columns of a text, and of its parts.
use Rattle.std.proofs.Common.{◌≡◌, ℕ, ◌+◌, ◌*◌, ◌≤◌, min, List, [], ◌∷◌, ◌++◌, length, take, drop, sym, refl, ap, ◌∙◌, arith}
use Rattle.std.proofs.ByRecursion.{All-take}
use Rattle.std.proofs.lemmas.List.{take-append-drop, take-take, length-take}
use Rattle.std.specs.List.{AllByRecursion}
use Rattle.font.specs.declared.Columns.{Columns}
use Rattle.font.specs.declared.Columns.TheVariants.{NoWidth, Zero, One, Two}
use Rattle.font.specs.Labels.{columns_by, char_columns, text_columns, between, label, longest_label, Printable}
use Rattle.font.proofs.Labels.{label_bound, label_printable}

columns_by_bound : (w : Columns) (c : ℕ) → columns_by w c ≤ longest_label
columns_by_bound NoWidth c = (label_bound c).1
columns_by_bound Zero c = omega arith
columns_by_bound One c = omega arith
columns_by_bound Two c = omega arith

module _ (columns : ℕ → Columns) where
  pub char_columns_bound : (c : ℕ) → char_columns columns c ≤ longest_label
  char_columns_bound c = columns_by_bound (columns c) c

  pub text_columns_bound : (text : List ℕ) → text_columns columns text ≤ longest_label * length text
  text_columns_bound [] = omega arith
  text_columns_bound (c ∷ cs) =
      let first = char_columns_bound c in
      let rest = text_columns_bound cs in
      omega arith

  pub text_columns_append : (xs ys : List ℕ) → text_columns columns (xs ++ ys) ≡ text_columns columns xs + text_columns columns ys
  text_columns_append [] ys = omega arith
  text_columns_append (c ∷ cs) ys = let rest = text_columns_append cs ys in omega arith

  pub text_columns_push : (xs : List ℕ) (c : ℕ) → text_columns columns (xs ++ (c ∷ [])) ≡ text_columns columns xs + char_columns columns c
  text_columns_push xs c = let whole = text_columns_append xs (c ∷ []) in omega arith

  -- A text is as wide as its two parts at any place.
  pub text_columns_split : (n : ℕ) (xs : List ℕ) → text_columns columns (take n xs) + text_columns columns (drop n xs) ≡ text_columns columns xs
  text_columns_split n xs = sym (text_columns_append (take n xs) (drop n xs)) ∙ ap (text_columns columns) (take-append-drop n xs)

  -- The part between two places is what the longer front has more than the shorter.
  pub text_columns_between : (from to : ℕ) (xs : List ℕ) → from ≤ to → text_columns columns (take from xs) + text_columns columns (between from to xs)
      ≡ text_columns columns (take to xs)
  text_columns_between from to xs h = rw (take-take from to xs h) at (text_columns_split from (take to xs))

  pub text_columns_between_split : (from middle to : ℕ) (xs : List ℕ) → from ≤ middle → middle ≤ to
      → text_columns columns (between from middle xs) + text_columns columns (between middle to xs) ≡ text_columns columns (between from to xs)
  text_columns_between_split from middle to xs low high =
      omega (arith, text_columns_between from middle xs low, text_columns_between middle to xs high, text_columns_between from to xs (omega arith))

  pub text_columns_take_more : (from to : ℕ) (xs : List ℕ) → from ≤ to → text_columns columns (take from xs) ≤ text_columns columns (take to xs)
  text_columns_take_more from to xs h = let whole = text_columns_between from to xs h in omega arith

  pub text_columns_drop_more : (from to : ℕ) (xs : List ℕ) → from ≤ to → text_columns columns (drop to xs) ≤ text_columns columns (drop from xs)
  text_columns_drop_more from to xs h = omega (arith, text_columns_take_more from to xs h, text_columns_split from xs, text_columns_split to xs)

  -- With the font's law for 20 to 7E, a text of those takes a column for each character.
  module _ (ascii : (c : ℕ) → 0x20 ≤ c → c ≤ 0x7E → columns c ≡ One) where
    pub printable_columns : (text : List ℕ) → AllByRecursion Printable text → text_columns columns text ≡ length text
    printable_columns [] each = refl
    printable_columns (c ∷ cs) each =
        let first : char_columns columns c ≡ 1 = ap (λ w. columns_by w c) (ascii c each.0.0 each.0.1) in
        let rest = printable_columns cs each.1 in
        omega arith

    pub label_columns : (c : ℕ) → text_columns columns (label c) ≡ length (label c)
    label_columns c = printable_columns (label c) (label_printable c)

    pub cut_label_columns : (n c : ℕ) → text_columns columns (take n (label c)) ≡ min n (length (label c))
    cut_label_columns n c = printable_columns (take n (label c)) (All-take Printable n (label c) (label_printable c)) ∙ length-take n (label c)
