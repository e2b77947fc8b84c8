-- The clamp scrolls well, and leaves what is well scrolled as it is.
use Rattle.std.proofs.Common.{◌≡◌, ℕ, zero, suc, ◌+◌, ◌-◌, ◌<◌, ◌≤◌, min, ◌⊎◌, List, [], ◌∷◌, take, drop, sym, refl, ap, ◌∙◌, subst, inl, inr, ⊎_elim, arith}
use Rattle.std.proofs.lemmas.Bool.{cases_lt, lt-ltb, le-ltb}
use Rattle.font.specs.declared.Columns.{Columns}
use Rattle.font.specs.Labels.{text_columns}
use Rattle.draft.specs.Line.{Line}
use Rattle.draft.specs.Scroll.{margin, shown_columns, fallen, risen, risen_to_place, clamped, WellScrolled, ClampScrollsWell, ClampKeepsWellScrolled}
use Rattle.draft.proofs.Scrolling.{falls_no_more, stays}

none_past : (columns : ℕ → Columns) (n : ℕ) (xs : List ℕ) → text_columns columns (drop n (take n xs)) ≡ 0
none_past columns zero xs = refl
none_past columns (suc n) [] = refl
none_past columns (suc n) (x ∷ xs) = none_past columns n xs

fewer : (columns : ℕ → Columns) (xs : List ℕ) (o : ℕ) → text_columns columns (drop (suc o) xs) ≤ text_columns columns (drop o xs)
fewer columns [] zero = omega arith
fewer columns [] (suc o) = omega arith
fewer columns (x ∷ xs) zero = omega arith
fewer columns (x ∷ xs) (suc o) = fewer columns xs o

module _ (columns : ℕ → Columns) (l : Line) where
  -- the columns from an offset up to the place
  abbrev shown : ℕ → ℕ
  shown o = shown_columns columns l o

  pub shown_none : shown l.place ≡ 0
  shown_none = none_past columns l.place l.text

  -- the further the offset, the fewer
  pub shown_falls : (k o : ℕ) → shown (o + k) ≤ shown o
  shown_falls zero o = let e : o + 0 ≡ o = omega arith in rw e (omega arith)
  shown_falls (suc k) o =
      let e : o + suc k ≡ suc (o + k) = omega arith in
      let a = fewer columns (take l.place l.text) (o + k) in
      let b = shown_falls k o in
      rw e (omega arith)

  pub record Fallen (o f : ℕ) : Type 0 where
    pub below : f ≤ o
    pub stops : (f ≡ 0) ⊎ (margin ≤ shown f)

  pub fallen_law : (o : ℕ) → Fallen o (fallen columns l o)
  fallen_law zero = record { below = omega arith; stops = inl refl }
  fallen_law (suc o) =
      ⊎_elim
      (λ (h : shown (suc o) < margin). let t = lt-ltb _ _ h in let f = fallen_law o in rw t (record { below = omega (arith, f.below); stops = f.stops }))
      (λ (h : margin ≤ shown (suc o)). let t = le-ltb _ _ h in rw t (record { below = omega arith; stops = inr h }))
      (cases_lt (shown (suc o)) margin)

  module _ (most : ℕ) where
    pub record Risen (o r : ℕ) : Type 0 where
      pub above : o ≤ r
      pub within : r ≤ l.place
      pub free : shown r ≤ most
      pub stops : (r ≡ o) ⊎ (most < shown (r - 1))

    pub risen_law : (steps o : ℕ) → o + steps ≡ l.place → Risen o (risen columns most l steps o)
    risen_law zero o e =
        let place : l.place ≡ o = omega arith in
        let none : shown o ≡ 0 = subst (λ (k : ℕ). shown k ≡ 0) place shown_none in
        record { above = omega arith; within = omega arith; free = omega arith; stops = inl refl }
    risen_law (suc steps) o e =
        ⊎_elim
        (λ (h : most < shown o).
        let t = lt-ltb _ _ h in
        let r = risen_law steps (suc o) (omega arith) in
        let back : (p : ℕ) → p ≡ suc o → most < shown (p - 1) = (λ p q. let b : o ≡ p - 1 = omega arith in subst (λ (k : ℕ). most < shown k) b h) in
        rw t (record { above = omega (arith, r.above); within = r.within; free = r.free; stops = ⊎_elim (λ q. inr (back _ q)) inr r.stops }))
        (λ (h : shown o ≤ most). let t = le-ltb _ _ h in rw t (record { above = omega arith; within = omega arith; free = h; stops = inl refl }))
        (cases_lt most (shown o))

    -- up past each offset that shows too much
    climbs : (n steps o : ℕ) → ((k : ℕ) → k < o + n → most < shown k) → shown (o + n) ≤ most → n ≤ steps → risen columns most l steps o ≡ o + n
    climbs zero steps o high h le =
        let e : o + 0 ≡ o = omega arith in
        stays columns l most steps o (subst (λ (k : ℕ). shown k ≤ most) e h) ∙ sym e
    climbs (suc n) zero o high h le = absurd (omega arith)
    climbs (suc n) (suc steps) o high h le =
        let e : suc o + n ≡ o + suc n = omega arith in
        let t = lt-ltb _ _ (high o (omega arith)) in
        rw t (climbs n steps (suc o) (λ k q. high k (omega arith)) (subst (λ (k : ℕ). shown k ≤ most) (sym e) h) (omega arith) ∙ e)

  pub scrolls_well : (room offset : ℕ) → WellScrolled columns room l (clamped columns room l offset)
  scrolls_well room offset =
      let low = fallen columns l (min offset l.place) in
      let f = fallen_law (min offset l.place) in
      let below : low ≤ l.place = omega (arith, f.below) in
      let r = risen_law (room - margin) (l.place - low) low (omega arith) in
      record {
        offset_up_to_place = r.within;
        margin_on_the_right = r.free;
        no_further_than_needed =
            ⊎_elim
            (λ (q : clamped columns room l offset ≡ low).
            ⊎_elim
            (λ (z : low ≡ 0). inl (q ∙ z))
            (λ (w : margin ≤ shown low). inr (inl (subst (λ (k : ℕ). margin ≤ shown k) (sym q) w)))
            f.stops)
            (λ w. inr (inr w))
            r.stops;
      }

  kept_where_none_falls : (room o : ℕ) → WellScrolled columns room l o → fallen columns l o ≡ o → risen_to_place columns (room - margin) l (fallen columns l o) ≡ o
  kept_where_none_falls room o w e =
      ap (risen_to_place columns (room - margin) l) e ∙ stays columns l (room - margin) (l.place - o) o w.margin_on_the_right

  -- what fell rises again
  kept_where_one_more_is_too_many : (room o : ℕ) → WellScrolled columns room l o → room - margin < shown (o - 1) → risen_to_place columns (room - margin) l (fallen columns l o) ≡ o
  kept_where_one_more_is_too_many room o w h =
      let low = fallen columns l o in
      let below : low ≤ o = (fallen_law o).below in
      let up : o ≤ l.place = w.offset_up_to_place in
      let e : low + (o - low) ≡ o = omega arith in
      let high : (k : ℕ) → k < low + (o - low) → room - margin < shown k =
      (λ k q.
      let to : k + ((o - 1) - k) ≡ o - 1 = omega arith in
      let more : shown (o - 1) ≤ shown k = subst (λ (m : ℕ). shown m ≤ shown k) to (shown_falls ((o - 1) - k) k) in
      omega arith) in
      climbs (room - margin) (o - low) (l.place - low) low high (subst (λ (m : ℕ). shown m ≤ room - margin) (sym e) w.margin_on_the_right) (omega arith) ∙ e

  pub keeps : (room offset : ℕ) → WellScrolled columns room l offset → clamped columns room l offset ≡ offset
  keeps room offset w =
      let m : min offset l.place ≡ offset = omega (arith, w.offset_up_to_place) in
      ap (λ (o : ℕ). risen_to_place columns (room - margin) l (fallen columns l o)) m
      ∙ ⊎_elim
      (λ (z : offset ≡ 0). kept_where_none_falls room offset w (ap (fallen columns l) z ∙ sym z))
      (⊎_elim
      (λ (h : margin ≤ shown offset). kept_where_none_falls room offset w (falls_no_more columns l offset h))
      (λ (h : room - margin < shown (offset - 1)). kept_where_one_more_is_too_many room offset w h))
      w.no_further_than_needed

pub clamp_scrolls_well : ClampScrollsWell
clamp_scrolls_well columns room l offset = scrolls_well columns l room offset

pub clamp_keeps_well_scrolled : ClampKeepsWellScrolled
clamp_keeps_well_scrolled columns room l offset w = keeps columns l room offset w
