-- The part of a row that is left of the cursor. A text changes nothing else that a later clear does not wipe out,
-- and what it makes of that part depends on that part alone.
use Rattle.std.proofs.Common.{◌≡◌, ℕ, zero, suc, ◌+◌, ◌-◌, ◌<◌, ◌≤◌, true, false, cond, leb, List, [], ◌∷◌, ◌++◌, length, get_or, take, set, replicate, Some, None, Option, sym, refl, ap, ◌∙◌, ⊎_elim, arith, length-append, length-set, length-take, leb-true}
use lib.ListN.{length-replicate}
use Rattle.std.proofs.Math.Seq.{take-set-lt}
use Rattle.std.proofs.lemmas.List.{take_more_set, get_or-take, take_all, append-nil, append_assoc}
pub use Rattle.std.proofs.lemmas.Bool.{cases_Bool as decide}
use Rattle.font.specs.declared.Columns.{Columns}
use Rattle.font.specs.declared.Columns.TheVariants.{NoWidth, Zero, One, Two}
use Rattle.glass.specs.declared.Pen.{Pen}
use Rattle.glass.specs.Row.{Row, Cell, shown, right_half, cell, blank_cell, is_right_half, width_of}
use Rattle.glass.specs.Calls.{with_cells, cell_left_of, with_mark, marked, narrow, wide, if_it_fits, with_character, with_text, cleared}

-- the cursor is in the row, or right after it
abbrev pub Inside : Row → Type 0
Inside r = r.column ≤ width_of r

pub record Front : Type 0 where
  pub width : ℕ
  pub cells : List Cell
  pub pen : Pen
  pub column : ℕ

abbrev fronted : ℕ → List Cell → Pen → ℕ → Front
fronted w cs p k = record { width = w; cells = cs; pen = p; column = k }

abbrev pub front : Row → Front
front r = fronted (width_of r) (take r.column r.cells) r.pen r.column

pub same_front : (p : Pen) (k : ℕ) {v w : ℕ} {xs ys : List Cell} → v ≡ w → xs ≡ ys → fronted v xs p k ≡ fronted w ys p k
same_front p k {w = w} {xs = xs} e f = ap (λ (n : ℕ). fronted n xs p k) e ∙ ap (λ (cs : List Cell). fronted w cs p k) f

-- what a character makes of the front
abbrev added : ℕ → List Cell → Front → Front
added n cs f = cond (leb (f.column + n) f.width) (fronted f.width (f.cells ++ cs) f.pen (f.column + n)) f

abbrev pub front_with : Columns → ℕ → Front → Front
front_with NoWidth c f = f
front_with Zero c f = fronted f.width (marked c (cell_left_of f.column f.cells) f.cells) f.pen f.column
front_with One c f = added 1 (cell (shown c) f.pen ∷ []) f
front_with Two c f = added 2 (cell (shown c) f.pen ∷ cell right_half f.pen ∷ []) f

abbrev pub front_text : (ℕ → Columns) → List ℕ → Front → Front
front_text columns [] f = f
front_text columns (c ∷ cs) f = front_text columns cs (front_with (columns c) c f)

-- a front with blank cells up to the width
abbrev pub finished : Front → Row
finished f = record { cells = f.cells ++ replicate (f.width - f.column) blank_cell; pen = f.pen; column = f.column }

marked_front : (c col : ℕ) (cells : List Cell) (k : ℕ) → k ≤ col → take col (marked c (cell_left_of k cells) cells) ≡ marked c (cell_left_of k (take col cells)) (take col cells)
marked_front c col cells zero h = refl
marked_front c col cells (suc k) h =
    let e : get_or (take col cells) k blank_cell ≡ get_or cells k blank_cell = get_or-take col cells k blank_cell (omega arith) in
    ⊎_elim
    (λ (t : is_right_half (get_or cells k blank_cell).ink ≡ true).
    rw (e, t) (marked_front c col cells k (omega arith)))
    (λ (t : is_right_half (get_or cells k blank_cell).ink ≡ false).
    rw (e, t) (take-set-lt col cells k (with_mark c (get_or cells k blank_cell)) (omega arith) ∙ ap (λ (x : Cell). set (take col cells) k (with_mark c x)) (sym e)))
    (decide (is_right_half (get_or cells k blank_cell).ink))

two_front : (xs : List Cell) (k : ℕ) (a b : Cell) → k + 2 ≤ length xs → take (k + 2) (set (set xs k a) (k + 1) b) ≡ take k xs ++ (a ∷ b ∷ [])
two_front xs k a b h =
    let n : k + 2 ≡ (k + 1) + 1 = omega arith in
    let h2 : k + 1 < length (set xs k a) = omega (arith, length-set xs k a) in
    let h1 : k < length xs = omega arith in
    ap (λ m. take m (set (set xs k a) (k + 1) b)) n ∙ take_more_set (set xs k a) (k + 1) b h2
    ∙ ap (λ (x : List Cell). x ++ (b ∷ [])) (take_more_set xs k a h1) ∙ append_assoc (take k xs) (a ∷ []) (b ∷ [])

-- no character changes the width
pub marked_length : (c : ℕ) (o : Option ℕ) (cells : List Cell) → length (marked c o cells) ≡ length cells
marked_length c None cells = refl
marked_length c (Some k) cells = length-set cells k _

pub narrow_length : (c : ℕ) (r : Row) → length (narrow c r) ≡ width_of r
narrow_length c r = length-set r.cells r.column _

pub wide_length : (c : ℕ) (r : Row) → length (wide c r) ≡ width_of r
wide_length c r = length-set (narrow c r) (r.column + 1) _ ∙ narrow_length c r

fits_width : (n : ℕ) (cells : List Cell) (r : Row) → length cells ≡ width_of r → width_of (if_it_fits n cells r) ≡ width_of r
fits_width n cells r e =
    ⊎_elim (λ (t : leb (r.column + n) (width_of r) ≡ true). rw t e) (λ (t : leb (r.column + n) (width_of r) ≡ false). rw t) (decide (leb (r.column + n) (width_of r)))

pub character_width : (w : Columns) (c : ℕ) (r : Row) → width_of (with_character w c r) ≡ width_of r
character_width NoWidth c r = refl
character_width Zero c r = marked_length c (cell_left_of r.column r.cells) r.cells
character_width One c r = fits_width 1 (narrow c r) r (narrow_length c r)
character_width Two c r = fits_width 2 (wide c r) r (wide_length c r)

pub text_width : (columns : ℕ → Columns) (cs : List ℕ) (r : Row) → width_of (with_text columns cs r) ≡ width_of r
text_width columns [] r = refl
text_width columns (c ∷ cs) r = text_width columns cs (with_character (columns c) c r) ∙ character_width (columns c) c r

pub cleared_width : (r : Row) → width_of (cleared r) ≡ width_of r
cleared_width r = length-append (take r.column r.cells) (replicate (width_of r - r.column) blank_cell) ∙ omega (arith, length-take r.column r.cells, length-replicate (width_of r - r.column) blank_cell)

fits_inside : (n : ℕ) (cells : List Cell) (r : Row) → length cells ≡ width_of r → Inside r → Inside (if_it_fits n cells r)
fits_inside n cells r e f =
    ⊎_elim
    (λ (t : leb (r.column + n) (width_of r) ≡ true). let h = leb-true _ _ t in rw t (omega arith))
    (λ (t : leb (r.column + n) (width_of r) ≡ false). rw t f)
    (decide (leb (r.column + n) (width_of r)))

pub inside_with : (w : Columns) (c : ℕ) (r : Row) → Inside r → Inside (with_character w c r)
inside_with NoWidth c r f = f
inside_with Zero c r f = omega (arith, marked_length c (cell_left_of r.column r.cells) r.cells)
inside_with One c r f = fits_inside 1 (narrow c r) r (narrow_length c r) f
inside_with Two c r f = fits_inside 2 (wide c r) r (wide_length c r) f

pub front_of_with : (w : Columns) (c : ℕ) (r : Row) → front (with_character w c r) ≡ front_with w c (front r)
front_of_with NoWidth c r = refl
front_of_with Zero c r = same_front r.pen r.column (marked_length c (cell_left_of r.column r.cells) r.cells) (marked_front c r.column r.cells r.column (omega arith))
front_of_with One c r =
    ⊎_elim
    (λ (t : leb (r.column + 1) (width_of r) ≡ true).
    let h = leb-true _ _ t in
    rw t (same_front r.pen (r.column + 1) (narrow_length c r) (take_more_set r.cells r.column (cell (shown c) r.pen) (omega arith))))
    (λ (t : leb (r.column + 1) (width_of r) ≡ false). rw t)
    (decide (leb (r.column + 1) (width_of r)))
front_of_with Two c r =
    ⊎_elim
    (λ (t : leb (r.column + 2) (width_of r) ≡ true).
    let h = leb-true _ _ t in
    rw t (same_front r.pen (r.column + 2) (wide_length c r) (two_front r.cells r.column (cell (shown c) r.pen) (cell right_half r.pen) h)))
    (λ (t : leb (r.column + 2) (width_of r) ≡ false). rw t)
    (decide (leb (r.column + 2) (width_of r)))

pub inside_text : (columns : ℕ → Columns) (cs : List ℕ) (r : Row) → Inside r → Inside (with_text columns cs r)
inside_text columns [] r f = f
inside_text columns (c ∷ cs) r f = inside_text columns cs (with_character (columns c) c r) (inside_with (columns c) c r f)

pub front_of_text : (columns : ℕ → Columns) (cs : List ℕ) (r : Row) → front (with_text columns cs r) ≡ front_text columns cs (front r)
front_of_text columns [] r = refl
front_of_text columns (c ∷ cs) r =
    front_of_text columns cs (with_character (columns c) c r)
    ∙ ap (front_text columns cs) (front_of_with (columns c) c r)

-- a cleared row is its front with blanks after it, and so is a row that is full
pub cleared_is : (r : Row) → cleared r ≡ finished (front r)
cleared_is r = refl

pub full_is : (r : Row) → width_of r ≤ r.column → r ≡ finished (front r)
full_is r h =
    let z : width_of r - r.column ≡ 0 = omega arith in
    let a : take r.column r.cells ≡ r.cells = take_all r.column r.cells h in
    ap (λ (cs : List Cell). with_cells cs r) (sym (ap (λ (n : ℕ). take r.column r.cells ++ replicate n blank_cell) z ∙ append-nil (take r.column r.cells) ∙ a))
