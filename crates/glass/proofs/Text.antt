-- Where a text leaves the cursor.
use Rattle.std.proofs.Common.{◌≡◌, ℕ, ◌+◌, ◌≤◌, true, false, leb, List, [], ◌∷◌, ◌++◌, length, take, refl, ⊎_elim, arith, leb-false}
use Rattle.std.specs.List.{AllByRecursion}
use Rattle.std.proofs.ByRecursion.{All-append, All-take}
use Rattle.font.specs.declared.Columns.{Columns}
use Rattle.font.specs.declared.Columns.TheVariants.{One}
use Rattle.glass.specs.Row.{Row, Cell, width_of}
use Rattle.glass.specs.Calls.{narrow, if_it_fits, with_character, with_text}
use Rattle.glass.proofs.Front.{decide, character_width}

pub text_append : (columns : ℕ → Columns) (xs ys : List ℕ) (r : Row) → with_text columns (xs ++ ys) r ≡ with_text columns ys (with_text columns xs r)
text_append columns [] ys r = refl
text_append columns (x ∷ xs) ys r = text_append columns xs ys (with_character (columns x) x r)

pub fits_column : (n : ℕ) (cells : List Cell) (r : Row) → r.column + n ≤ width_of r → (if_it_fits n cells r).column ≡ r.column + n
fits_column n cells r h =
    ⊎_elim (λ (t : leb (r.column + n) (width_of r) ≡ true). rw t) (λ (t : leb (r.column + n) (width_of r) ≡ false). let u = leb-false _ _ t in absurd (omega arith)) (decide (leb (r.column + n) (width_of r)))

-- each character takes one column
abbrev pub AllOne : (ℕ → Columns) → List ℕ → Type 0
AllOne columns cs = AllByRecursion (λ c. columns c ≡ One) cs

pub text_column : (columns : ℕ → Columns) (cs : List ℕ) (r : Row) → AllOne columns cs → r.column + length cs ≤ width_of r → (with_text columns cs r).column ≡ r.column + length cs
text_column columns [] r a h = omega arith
text_column columns (c ∷ cs) r a h =
    let k : (with_character (columns c) c r).column ≡ r.column + 1 = rw a.0 (fits_column 1 (narrow c r) r (omega arith)) in
    let w = character_width (columns c) c r in
    let e = text_column columns cs (with_character (columns c) c r) a.1 (omega arith) in
    omega arith

pub all_append : (columns : ℕ → Columns) (xs ys : List ℕ) → AllOne columns xs → AllOne columns ys → AllOne columns (xs ++ ys)
all_append columns xs ys a b = All-append (λ c. columns c ≡ One) xs ys a b

pub all_take : (columns : ℕ → Columns) (n : ℕ) (xs : List ℕ) → AllOne columns xs → AllOne columns (take n xs)
all_take columns n xs a = All-take (λ c. columns c ≡ One) n xs a
