-- The cells of a cell row, after one slot or one mark, and after a clear.
use Rattle.std.proofs.Common.{◌≡◌, ◌≢◌, ℕ, zero, suc, ◌-◌, ◌<◌, ◌≤◌, Bool, cond, List, [], ◌∷◌, ◌++◌, length, get_or, take, drop, set, replicate, Option, Some, None, sym, refl, ap, ◌∙◌, ⊎_elim, sub-one, arith, rules}
use Rattle.std.specs.Borrow.{Bor}
use Rattle.std.specs.List.{HoldsAt, slice_get}
use Rattle.std.specs.Option.{MatchOption, option_copied}
use borrow.Rule.Slice.PartMut.{post_of}
use Rattle.std.proofs.lemmas.List.{places, same_lists, length-set, get_or-set_same, get_or-set_other, length-replicate, get_or-replicate, length-append, length-take, get_or_past}
use Rattle.std.proofs.lemmas.List.FromFn.{length-map-range_with_len, get_or-map-range_with_len, fill_by_all}
use Rattle.std.proofs.lemmas.Bool.{cases_eq, cases_lt, lt-ltb, le-ltb, cond-true, cond-false}
use Rattle.std.proofs.lemmas.Option.{slice_get-get_or, slice_get_past}
use Rattle.glass.specs.declared.Pen.{Pen}
use Rattle.cells.specs.declared.table.Slot.{Slot}
use Rattle.cells.specs.declared.table.Mark.{Mark}
use Rattle.glass.specs.Row.{Row, Cell, cell, blank_cell, blank_row, plain_pen, is_right_half}
use Rattle.glass.specs.Calls.{with_mark, cell_left_of}
use Rattle.cells.specs.Slots.{marks_of, blank_slot, cell_at, cells_of, row_of}
use Rattle.cells.specs.Shows.{slot_of, slot_shown}
use Rattle.cells.specs.Marked.{ChangesOnly, CutAt}

abbrev with_marks : Slot → List ℕ → Cell
with_marks s ms = record { ink = s.ink; pen = s.pen; marks = ms }

cell_same : {s t : Slot} {ms ns : List ℕ} → s ≡ t → ms ≡ ns → with_marks s ms ≡ with_marks t ns
cell_same a e = cc

pub length_cells : (slots : List Slot) (w : ℕ) (ms : List Mark) → length (cells_of slots w ms) ≡ w
length_cells slots w ms = length-map-range_with_len (cell_at slots ms) 0 w

pub cell_is : (slots : List Slot) (w : ℕ) (ms : List Mark) (k : ℕ) → k < w → get_or (cells_of slots w ms) k blank_cell ≡ cell_at slots ms k
cell_is slots w ms k h = get_or-map-range_with_len (cell_at slots ms) 0 w k k blank_cell h (omega arith)

-- a list is the cells of a row if it is that at each column
by_columns : (slots : List Slot) (w : ℕ) (ms : List Mark) (cells : List Cell) → length cells ≡ w → ((k : ℕ) → k < w → get_or cells k blank_cell ≡ cell_at slots ms k) → cells_of slots w ms ≡ cells
by_columns slots w ms cells n h = sym (fill_by_all (cell_at slots ms) cells w blank_cell n h)

-- one cell differs
one_column : (slots : List Slot) (w : ℕ) (ms : List Mark) (old : List Slot) (before : List Mark) (k : ℕ) (codes : List ℕ) (x : Cell) → k < w → ChangesOnly k codes before ms
    → x ≡ with_marks (get_or slots k blank_slot) codes → ((j : ℕ) → j ≢ k → get_or old j blank_slot ≡ get_or slots j blank_slot)
    → cells_of slots w ms ≡ set (cells_of old w before) k x
one_column slots w ms old before k codes x h o here there =
    by_columns slots w ms (set (cells_of old w before) k x) (length-set (cells_of old w before) k x ∙ length_cells old w before)
    (λ j b.
    ⊎_elim
    (λ e. rw e (get_or-set_same (cells_of old w before) k x blank_cell (rw (length_cells old w before) h) ∙ here ∙ cell_same refl (sym o.here)))
    (λ n. get_or-set_other (cells_of old w before) k j x blank_cell n ∙ cell_is old w before j b ∙ cell_same (there j n) (sym (o.elsewhere j n)))
    (cases_eq j k))

pub put_slot : (slots : List Slot) (w : ℕ) (before after : List Mark) (k : ℕ) (s : Slot) → k < w → w ≤ length slots → ChangesOnly k [] before after
    → cells_of (set slots k s) w after ≡ set (cells_of slots w before) k (cell s.ink s.pen)
put_slot slots w before after k s h l o =
    one_column (set slots k s) w after slots before k [] (cell s.ink s.pen) h o
    (cell_same (sym (get_or-set_same slots k s blank_slot (omega arith))) refl)
    (λ j n. sym (get_or-set_other slots k j s blank_slot n))

pub join_mark : (slots : List Slot) (w : ℕ) (before after : List Mark) (k c : ℕ) → k < w → ChangesOnly k (marks_of k before ++ (c ∷ [])) before after
    → cells_of slots w after ≡ set (cells_of slots w before) k (with_mark c (get_or (cells_of slots w before) k blank_cell))
join_mark slots w before after k c h o =
    one_column slots w after slots before k (marks_of k before ++ (c ∷ [])) (with_mark c (get_or (cells_of slots w before) k blank_cell)) h o (ap (with_mark c) (cell_is slots w before k h)) (λ j n. refl)

pub blank_cells : (w : ℕ) (ms : List Mark) → ((k : ℕ) → marks_of k ms ≡ []) → cells_of (replicate w blank_slot) w ms ≡ replicate w blank_cell
blank_cells w ms none =
    by_columns (replicate w blank_slot) w ms (replicate w blank_cell) (length-replicate w blank_cell)
    (λ k b. get_or-replicate w k blank_cell blank_cell b ∙ sym (cell_same (get_or-replicate w k blank_slot blank_slot b) (none k)))

-- the row of slots, said by its cells
pub row_is : {xs ys : List Slot} {w : ℕ} (ms : List Mark) (p : Pen) (k : ℕ) {cells : List Cell} → xs ≡ ys → length ys ≡ w → cells_of ys w ms ≡ cells → row_of xs (length xs) ms p k ≡ record { cells = cells; pen = p; column = k }
row_is {xs} {ys} {w} ms p k {cells} e n h = ap (λ zs. row_of zs (length zs) ms p k) e ∙ ap (λ m. row_of ys m ms p k) n ∙ ap (λ cs. let r : Row = record { cells = cs; pen = p; column = k } in r) h

-- cells that are blank from a column on, without marks there
module _ (slots : List Slot) (at : ℕ) (a : at ≤ length slots) where
  abbrev pub wiped : List Slot
  wiped = take at slots ++ replicate (length slots - at) blank_slot

  -- what a fill of the slots from a column on leaves
  pub filled : (now new : List Slot) → now ≡ slots → new ≡ replicate (length (take (length now - at) (drop at now))) blank_slot → take at now ++ (new ++ post_of at (length now - at) now) ≡ wiped
  filled now new e f = same_lists _ _ (search (rules, places)) (λ k d h. grind (arith, places))

  pub wiped_length : length wiped ≡ length slots
  wiped_length = simp (length-append, length-take, length-replicate) (omega arith)

  kept_slot : (k : ℕ) → k < at → get_or wiped k blank_slot ≡ get_or slots k blank_slot
  kept_slot k h = search (rules, places)

  wiped_slot : (k : ℕ) → at ≤ k → k < length slots → get_or wiped k blank_slot ≡ blank_slot
  wiped_slot k h b = search (rules, places)

  kept_cell : (cells : List Cell) (k : ℕ) → length cells ≡ length slots → k < at → get_or (take at cells ++ replicate (length slots - at) blank_cell) k blank_cell ≡ get_or cells k blank_cell
  kept_cell cells k n h = search (rules, places)

  wiped_cell : (cells : List Cell) (k : ℕ) → length cells ≡ length slots → at ≤ k → k < length slots → get_or (take at cells ++ replicate (length slots - at) blank_cell) k blank_cell ≡ blank_cell
  wiped_cell cells k n h b = search (rules, places)

  pub cleared_cells : (before after : List Mark) → CutAt at before after → cells_of wiped (length slots) after ≡ take at (cells_of slots (length slots) before) ++ replicate (length slots - at) blank_cell
  cleared_cells before after o =
      let w = length slots in
      let n = length_cells slots w before in
      by_columns wiped w after (take at (cells_of slots w before) ++ replicate (w - at) blank_cell)
      (simp (length-append, length-take, length-replicate) (omega arith))
      (λ k b.
      ⊎_elim
      (λ (h : k < at). kept_cell (cells_of slots w before) k n h ∙ cell_is slots w before k b ∙ sym (cell_same (kept_slot k h) (o.kept k h)))
      (λ (h : at ≤ k). wiped_cell (cells_of slots w before) k n h b ∙ sym (cell_same (wiped_slot k h b) (o.gone k h)))
      (cases_lt k at))

-- the marks in a column, also past the width
pub marks_at : (slots : List Slot) (w : ℕ) (ms : List Mark) → ((k : ℕ) → w ≤ k → marks_of k ms ≡ []) → (k : ℕ) → marks_of k ms ≡ (get_or (cells_of slots w ms) k blank_cell).marks
marks_at slots w ms none k =
    let n = length_cells slots w ms in
    ⊎_elim
    (λ (h : k < w). sym (ap (λ (x : Cell). x.marks) (cell_is slots w ms k h)))
    (λ (h : w ≤ k). none k h ∙ sym (ap (λ (x : Cell). x.marks) (get_or_past (cells_of slots w ms) k blank_cell (omega arith))))
    (cases_lt k w)

-- the slot in a column; none past the width
pub slot_at : (slots : List Slot) (ms : List Mark) (p : Pen) (column : ℕ) (k : ℕ) → slice_get slots k ≡ slot_shown (row_of slots (length slots) ms p column) k
slot_at slots ms p column k =
    let w = length slots in
    let n = length_cells slots w ms in
    let cells = cells_of slots w ms in
    ⊎_elim
    (λ (h : k < w).
    let t = lt-ltb k (length cells) (omega arith) in
    slice_get-get_or slots k blank_slot h ∙ ap (λ (x : Cell). Some (slot_of x)) (sym (cell_is slots w ms k h)) ∙ sym (cond-true _ (Some (slot_of (get_or cells k blank_cell))) None t))
    (λ (h : w ≤ k).
    let t = le-ltb k (length cells) (omega arith) in
    slice_get_past slots k h ∙ sym (cond-false _ (Some (slot_of (get_or cells k blank_cell))) None t))
    (cases_lt k w)

-- what a lookup gives
pub got : (o : Option (Bor Slot)) (now slots : List Slot) (k : ℕ) → now ≡ slots → MatchOption o (length now ≤ k) (λ x. (k < length now) × HoldsAt (λ y. x.now ≡ y) now k) → option_copied o ≡ slice_get slots k
got None now slots k e h = sym (ap (λ xs. slice_get xs k) (sym e) ∙ slice_get_past now k h)
got (Some x) now slots k e h = ap Some (h.1 blank_slot) ∙ sym (ap (λ xs. slice_get xs k) (sym e) ∙ slice_get-get_or now k blank_slot h.0)

-- one column further to the left
pub left_more : (k : ℕ) (cells : List Cell) → 0 < k → cell_left_of k cells ≡ cond (is_right_half (get_or cells (k - 1) blank_cell).ink) (cell_left_of (k - 1) cells) (Some (k - 1))
left_more zero cells h = absurd (omega arith)
left_more (suc k) cells h = rw sub-one

pub at_left : (slots : List Slot) (w : ℕ) (ms : List Mark) (k : ℕ) (b : Bool) → 0 < k → k ≤ w → is_right_half (get_or slots (k - 1) blank_slot).ink ≡ b
    → cell_left_of k (cells_of slots w ms) ≡ cond b (cell_left_of (k - 1) (cells_of slots w ms)) (Some (k - 1))
at_left slots w ms k b p h e =
    left_more k (cells_of slots w ms) p
    ∙ ap (λ (x : Cell). cond (is_right_half x.ink) (cell_left_of (k - 1) (cells_of slots w ms)) (Some (k - 1))) (cell_is slots w ms (k - 1) (omega arith))
    ∙ ap (λ x. cond x (cell_left_of (k - 1) (cells_of slots w ms)) (Some (k - 1))) e

pub blank_row_is : {xs : List Slot} (w : ℕ) (ms : List Mark) → xs ≡ replicate w blank_slot → ((k : ℕ) → marks_of k ms ≡ []) → row_of xs (length xs) ms plain_pen 0 ≡ blank_row w
blank_row_is {xs} w ms e none = row_is ms plain_pen 0 e (length-replicate w blank_slot) (blank_cells w ms none)
