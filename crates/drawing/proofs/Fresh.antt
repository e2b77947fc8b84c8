-- A character that was just written shows whole.
use Rattle.std.proofs.Common.{◌≡◌, ℕ, zero, suc, ◌+◌, ◌<◌, ◌≤◌, Bool, true, false, List, [], ◌∷◌, ◌++◌, length, get_or, Some, Option, sym, refl, ap, ◌∙◌, subst, inl, inr, arith, length-append, length-set}
use lib.Seq.{get_or-append_seam}
use Rattle.std.proofs.lemmas.Bool.{cases_Bool, le-leb, true≢false}
use Rattle.std.proofs.lemmas.List.{get_or-set_same, get_or-set_other}
use Rattle.font.specs.declared.Columns.{Columns}
use Rattle.font.specs.declared.Columns.TheVariants.{NoWidth, Zero, One, Two}
use Rattle.font.specs.Labels.{columns_by, has_label}
use Rattle.glass.specs.Row.{Row, Cell, cell, shown, right_half, blank_cell, is_right_half, width_of}
use Rattle.glass.specs.Calls.{with_cells, at_column, cell_left_of, with_mark, marked, narrow, wide, if_it_fits, with_character, with_text}
use Rattle.glass.proofs.Front.{Inside}
use Rattle.glass.proofs.Text.{AllOne}
use Rattle.glass.proofs.Keeps.{Still, Keeps, keeps_with, keeps_text}
use Rattle.drawing.specs.Shows.{ShowsMark, ShowsBy}
use Rattle.drawing.proofs.Visible.{left_kept, left_below}

-- some cell left of the cursor can take a mark
pub record Anchored (r : Row) : Type 0 where
  pub cell : ℕ
  pub left : cell < r.column
  pub solid : is_right_half (get_or r.cells cell blank_cell).ink ≡ false

pub anchored_kept : (r s : Row) → Keeps r s → Anchored r → Anchored s
anchored_kept r s p a = record {
  cell = a.cell;
  left = omega (arith, p.on, a.left);
  solid = ap is_right_half (p.cells a.cell a.left).ink ∙ a.solid;
}

-- two numbers with different answers are different
below_other : (test : ℕ → Bool) (j x : ℕ) → j < suc x → test j ≡ false → test x ≡ true → j < x
below_other test j x h s t = grind arith

left_found : (x j : ℕ) (cells : List Cell) → j < x → is_right_half (get_or cells j blank_cell).ink ≡ false → (i : ℕ) × (cell_left_of x cells ≡ Some i)
left_found zero j cells h s = absurd (omega arith)
left_found (suc x) j cells h s =
    elim (cases_Bool (is_right_half (get_or cells x blank_cell).ink)) [
      | inl t ↦ rw t (left_found x j cells (below_other (λ k. is_right_half (get_or cells k blank_cell).ink) j x h s t) s)
      | inr t ↦ rw t (x, refl)
    ]

mark_shows : (c : ℕ) (r : Row) → Inside r → Anchored r → ShowsMark (with_character Zero c r).cells r.column c
mark_shows c r f a =
    let n = left_found r.column a.cell r.cells a.left a.solid in
    let j = n.0 in
    let below = left_below r.column j r.cells n.1 in
    let old = get_or r.cells j blank_cell in
    let here : get_or (with_character Zero c r).cells j blank_cell ≡ with_mark c old =
    ap (λ (o : Option ℕ). get_or (marked c o r.cells) j blank_cell) n.1 ∙ get_or-set_same r.cells j (with_mark c old) blank_cell (omega arith) in
    let m : (get_or (with_character Zero c r).cells j blank_cell).marks ≡ old.marks ++ (c ∷ []) = ap (λ (x : Cell). x.marks) here in
    record {
      cell = j;
      nearest = left_kept r (with_character Zero c r) (keeps_with Zero c r) r.column (omega arith) ∙ n.1;
      which = length old.marks;
      among = omega (arith, ap length m ∙ length-append old.marks (c ∷ []));
      is_there = ap (λ (ms : List ℕ). get_or ms (length old.marks) 0) m ∙ get_or-append_seam old.marks c [] 0;
    }

pub fits : (n : ℕ) (cells : List Cell) (r : Row) → r.column + n ≤ width_of r → if_it_fits n cells r ≡ at_column (r.column + n) (with_cells cells r)
fits n cells r h = rw (le-leb (r.column + n) (width_of r) h)

narrow_here : (c : ℕ) (r : Row) → Inside r → r.column + 1 ≤ width_of r → get_or (narrow c r) r.column blank_cell ≡ cell (shown c) r.pen
narrow_here c r f h = get_or-set_same r.cells r.column (cell (shown c) r.pen) blank_cell (omega arith)

wide_left : (c : ℕ) (r : Row) → Inside r → r.column + 2 ≤ width_of r → get_or (wide c r) r.column blank_cell ≡ cell (shown c) r.pen
wide_left c r f h =
    get_or-set_other (narrow c r) (r.column + 1) r.column (cell right_half r.pen) blank_cell (λ e. omega arith)
    ∙ narrow_here c r f (omega arith)

wide_right : (c : ℕ) (r : Row) → Inside r → r.column + 2 ≤ width_of r → get_or (wide c r) (r.column + 1) blank_cell ≡ cell right_half r.pen
wide_right c r f h =
    get_or-set_same (narrow c r) (r.column + 1) (cell right_half r.pen) blank_cell (omega (arith, length-set r.cells r.column (cell (shown c) r.pen)))

-- a character without a label that fits
pub character_shows : (w : Columns) (c : ℕ) (r : Row) → has_label w ≡ false → Inside r → Anchored r → r.column + columns_by w c ≤ width_of r → ShowsBy w (with_character w c r).cells r.column c
character_shows NoWidth c r l f a h = absurd (true≢false l)
character_shows Zero c r l f a h = mark_shows c r f a
character_shows One c r l f a h =
    rw (fits 1 (narrow c r) r h) (ap (λ (x : Cell). x.ink) (narrow_here c r f h))
character_shows Two c r l f a h =
    rw (fits 2 (wide c r) r h) (ap (λ (x : Cell). x.ink) (wide_left c r f h), ap (λ (x : Cell). x.ink) (wide_right c r f h))

-- each character of a text of one column each stands where it was written, in the pen
pub text_writes : (columns : ℕ → Columns) (l : List ℕ) (r : Row) → Inside r → AllOne columns l → r.column + length l ≤ width_of r → (k : ℕ) → k < length l
    → Still (cell (shown (get_or l k 0)) r.pen) (get_or (with_text columns l r).cells (r.column + k) blank_cell)
text_writes columns [] r f a h k b = absurd (omega arith)
text_writes columns (c ∷ cs) r f a h zero b =
    let r1 = at_column (r.column + 1) (with_cells (narrow c r) r) in
    let e : with_character (columns c) c r ≡ r1 = ap (λ (w : Columns). with_character w c r) a.0 ∙ fits 1 (narrow c r) r (omega arith) in
    let z : r.column ≡ r.column + 0 = omega arith in
    let k : Still (get_or (narrow c r) r.column blank_cell) (get_or (with_text columns cs r1).cells r.column blank_cell) = (keeps_text columns cs r1).cells r.column (omega arith) in
    let k1 : Still (cell (shown c) r.pen) (get_or (with_text columns cs r1).cells r.column blank_cell) =
    subst (λ (x : Cell). Still x (get_or (with_text columns cs r1).cells r.column blank_cell)) (narrow_here c r f (omega arith)) k in
    subst (λ (x : Row). Still (cell (shown c) r.pen) (get_or (with_text columns cs x).cells (r.column + 0) blank_cell)) (sym e)
    (subst (λ (n : ℕ). Still (cell (shown c) r.pen) (get_or (with_text columns cs r1).cells n blank_cell)) z k1)
text_writes columns (c ∷ cs) r f a h (suc k) b =
    let r1 = at_column (r.column + 1) (with_cells (narrow c r) r) in
    let e : with_character (columns c) c r ≡ r1 = ap (λ (w : Columns). with_character w c r) a.0 ∙ fits 1 (narrow c r) r (omega arith) in
    let n1 = length-set r.cells r.column (cell (shown c) r.pen) in
    let f1 : Inside r1 = omega arith in
    let z : (r.column + 1) + k ≡ r.column + suc k = omega arith in
    subst (λ (x : Row). Still (cell (shown (get_or cs k 0)) r.pen) (get_or (with_text columns cs x).cells (r.column + suc k) blank_cell)) (sym e)
    (subst (λ (n : ℕ). Still (cell (shown (get_or cs k 0)) r.pen) (get_or (with_text columns cs r1).cells n blank_cell)) z
    (text_writes columns cs r1 f1 a.1 (omega arith) k (omega arith)))
