-- The calls of a glass: what each does to the row, what it costs, and when it is refused.
use Rattle.std.specs.Prelude.{◌≡◌, ℕ, zero, suc, ◌+◌, ◌-◌, ◌≤◌, Bool, true, false, cond, not, ◌||◌, List, [], ◌∷◌, ◌++◌, length, get_or, take, replicate, Some, None, Option, Result, MatchResult, nat_le, nat_lt, slice_index_or, slice_set}
use Rattle.std.proofs.Math.Utf8.{scalars}
use Rattle.font.specs.declared.Columns.{Columns}
use Rattle.font.specs.declared.Columns.TheVariants.{NoWidth, Zero, One, Two}
use Rattle.text.specs.declared.refusal.Refusal.{Refusal}
use Rattle.text.specs.declared.refusal.Refusal.TheVariants.{OutsideGlass, LowSpare, NotScalar}
use Rattle.glass.specs.declared.PenChange.{PenChange}
use Rattle.glass.specs.declared.PenChange.TheVariants.{Plain, Prompt, ReverseOn, ReverseOff}
use Rattle.glass.specs.declared.Pen.{Pen}
use Rattle.glass.specs.Row.{Row, Cell, shown, right_half, prompt_colours, pen_of, plain_pen, cell, blank_cell, blank_row, is_right_half, width_of, widest}

pub data GlassCall : Type 0 where
  place : ℕ → GlassCall
  pen : PenChange → GlassCall
  text : List ℕ → GlassCall
  clear : GlassCall
  reshape : ℕ → GlassCall

-- plain and prompt colours turn the reverse off; the other two keep the colours
abbrev pub changed_pen : PenChange → Pen → Pen
changed_pen Plain p = plain_pen
changed_pen Prompt p = pen_of prompt_colours false
changed_pen ReverseOn p = pen_of p.colours true
changed_pen ReverseOff p = pen_of p.colours false

abbrev pub with_cells : List Cell → Row → Row
with_cells cs r = record { cells = cs; pen = r.pen; column = r.column }

abbrev pub at_column : ℕ → Row → Row
at_column k r = record { cells = r.cells; pen = r.pen; column = k }

-- the nearest cell to the left of a column that is no right half
abbrev pub cell_left_of : ℕ → List Cell → Option ℕ
cell_left_of zero cells = None
cell_left_of (suc k) cells = cond (is_right_half (get_or cells k blank_cell).ink) (cell_left_of k cells) (Some k)

abbrev pub with_mark : ℕ → Cell → Cell
with_mark m k = record { ink = k.ink; pen = k.pen; marks = k.marks ++ (m ∷ []) }

abbrev pub marked : ℕ → Option ℕ → List Cell → List Cell
marked m None cells = cells
marked m (Some k) cells = slice_set cells k (with_mark m (slice_index_or cells k blank_cell))

abbrev pub narrow : ℕ → Row → List Cell
narrow c r = slice_set r.cells r.column (cell (shown c) r.pen)

abbrev pub wide : ℕ → Row → List Cell
wide c r = slice_set (narrow c r) (r.column + 1) (cell right_half r.pen)

-- what does not fit in the row is lost
abbrev pub if_it_fits : ℕ → List Cell → Row → Row
if_it_fits n cells r = cond (nat_le (r.column + n) (width_of r)) (at_column (r.column + n) (with_cells cells r)) r

abbrev pub with_character : Columns → ℕ → Row → Row
with_character NoWidth c r = r
with_character Zero c r = with_cells (marked c (cell_left_of r.column r.cells) r.cells) r
with_character One c r = if_it_fits 1 (narrow c r) r
with_character Two c r = if_it_fits 2 (wide c r) r

abbrev pub with_text : (ℕ → Columns) → List ℕ → Row → Row
with_text columns [] r = r
with_text columns (c ∷ cs) r = with_text columns cs (with_character (columns c) c r)

abbrev pub cleared : Row → Row
cleared r = with_cells (take r.column r.cells ++ replicate (width_of r - r.column) blank_cell) r

-- what a call makes of a row
abbrev pub apply : (ℕ → Columns) → GlassCall → Row → Row
apply columns (place k) r = at_column k r
apply columns (pen p) r = record { cells = r.cells; pen = changed_pen p r.pen; column = r.column }
apply columns (text cs) r = with_text columns cs r
apply columns clear r = cleared r
apply columns (reshape w) r = blank_row w

abbrev pub apply_all : (ℕ → Columns) → List GlassCall → Row → Row
apply_all columns [] r = r
apply_all columns (k ∷ ks) r = apply_all columns ks (apply columns k r)

abbrev pub cost : GlassCall → ℕ
cost (place k) = 1
cost (pen p) = 1
cost (text cs) = length cs + 1
cost clear = 1
cost (reshape w) = 1

abbrev pub cost_of_all : List GlassCall → ℕ
cost_of_all [] = 0
cost_of_all (k ∷ ks) = cost k + cost_of_all ks

-- a width that no glass may have
abbrev pub no_width : ℕ → Bool
no_width w = nat_lt w 1 || nat_lt widest w

-- a column that is not below the width, or a width that no glass may have
abbrev pub outside : GlassCall → (width : ℕ) → Bool
outside (place k) w = nat_le w k
outside (pen p) w = false
outside (text cs) w = false
outside clear w = false
outside (reshape v) w = no_width v

abbrev pub no_scalar : GlassCall → Bool
no_scalar (place k) = false
no_scalar (pen p) = false
no_scalar (text cs) = not (scalars cs)
no_scalar clear = false
no_scalar (reshape w) = false

-- why a glass of a width and with a spare refuses a call, if it does: the first reason
abbrev pub refused : GlassCall → (width spare : ℕ) → Option Refusal
refused k width spare =
    cond (outside k width) (Some OutsideGlass)
    (cond (nat_lt spare (cost k)) (Some LowSpare)
    (cond (no_scalar k) (Some NotScalar) None))

-- none of the calls is refused, one after another, while each lowers the spare by its cost at most
abbrev pub Allowed : (ℕ → Columns) → List GlassCall → Row → (spare : ℕ) → Type 0
Allowed columns [] r spare = Unit {0}
Allowed columns (k ∷ ks) r spare = (refused k (width_of r) spare ≡ None) × ((left : ℕ) → spare ≤ left + cost k → Allowed columns ks (apply columns k r) left)

-- A glass g answers a call, and is h then: it is refused as said above and stays as it was, or its row is what
-- the call makes of it, and its spare is lower by the cost at most.
abbrev pub Obeys : {G : Type 0} → (ℕ → Columns) → (G → Row) → (G → ℕ) → GlassCall → G → Result (Unit {0}) Refusal → G → Type 0
Obeys columns row spare k g r h =
    MatchResult r
    (λ _. (refused k (width_of (row g)) (spare g) ≡ None) × (row h ≡ apply columns k (row g)) × (spare g ≤ spare h + cost k))
    (λ e. (refused k (width_of (row g)) (spare g) ≡ Some e) × (h ≡ g))

-- the calls were made, one after another, on the glass g, which is h then
pub record Drew {G : Type 0} (columns : ℕ → Columns) (row : G → Row) (spare : G → ℕ) (ks : List GlassCall) (g h : G) : Type 0 where
  pub row_after : row h ≡ apply_all columns ks (row g)
  pub paid : spare g ≤ spare h + cost_of_all ks

-- Of the calls `all`, which were allowed on the glass g, those of `left` are still to be made on h: they are allowed, and lead where all lead.
pub record Leads {G : Type 0} (columns : ℕ → Columns) (row : G → Row) (spare : G → ℕ) (all left : List GlassCall) (g h : G) : Type 0 where
  pub same_row : apply_all columns left (row h) ≡ apply_all columns all (row g)
  pub same_cost : spare g + cost_of_all left ≤ spare h + cost_of_all all
  pub allowed : Allowed columns left (row h) (spare h)
