-- A character at the end of a text that fits may as well be sent alone, after the text was drawn.
use Rattle.std.proofs.Common.{◌≡◌, ℕ, ◌+◌, ◌-◌, ◌<◌, ◌≤◌, false, List, [], ◌∷◌, ◌++◌, length, take, sym, refl, ap, ◌∙◌, arith}
use Rattle.std.proofs.lemmas.Bool.{lt-ltb, le-ltb, lt-leb, true≢false}
use Rattle.std.proofs.lemmas.List.{take_all}
use Rattle.font.specs.declared.Columns.{Columns}
use Rattle.font.specs.declared.Columns.TheVariants.{NoWidth, Zero, One, Two}
use Rattle.font.specs.Labels.{label as spelling, columns_by, text_columns, has_label}
use Rattle.glass.specs.declared.PenChange.TheVariants.{ReverseOn, ReverseOff}
use Rattle.glass.specs.Row.{Row, width_of}
use Rattle.glass.specs.Calls.{GlassCall, pen, apply, apply_all, with_text, with_character, narrow, wide, cleared}
use Rattle.glass.proofs.Front.{Inside, text_width, inside_text}
use Rattle.glass.proofs.Text.{text_append, text_column, fits_column, all_take}
use Rattle.drawing.proofs.Ones.{label_one}
use Rattle.glass.proofs.Blank.{cleared_then}
use Rattle.drawing.specs.Drawing.{ended, joined, spelled, piece, pieces}
use Rattle.drawing.proofs.Forgets.{sends, run_column}

module _ (columns : ℕ → Columns) (width : ℕ) where
  -- where the cursor is once the run is sent
  pub record At (run : List ℕ) (col : ℕ) (r : Row) : Type 0 where
    pub inside : Inside r
    pub full_width : width_of r ≡ width
    pub column : (with_text columns run r).column ≡ col

  pub ended_clears : (run : List ℕ) (col : ℕ) (r : Row) → col < width → apply_all columns (ended width col run) r ≡ cleared (with_text columns run r)
  ended_clears run col r h =
      sends columns run _ r
      ∙ rw (lt-ltb col width h)

  pub goes_on : (col n : ℕ) (run : List ℕ) (on : ℕ → List GlassCall) → col + n ≤ width → joined width col run n on ≡ on (col + n)
  goes_on col n run on h = rw (le-ltb width (col + n) h)

  pub spelled_on : (col : ℕ) (l : List ℕ) (on : ℕ → List GlassCall) (r : Row) → col + length l < width
      → apply_all columns (spelled width col l on) r ≡ apply_all columns (on (col + length l)) (apply columns (pen ReverseOff) (with_text columns l (apply columns (pen ReverseOn) r)))
  spelled_on col l on r h = rw (lt-leb width (col + length l) h)

module _ (columns : ℕ → Columns) (ascii : (c : ℕ) → 0x20 ≤ c → c ≤ 0x7E → columns c ≡ One) (width : ℕ) where
  abbrev More : ℕ → List ℕ → Type 0
  More c cs = (run : List ℕ) (col : ℕ) (r : Row) → At columns width run col r → col + text_columns columns (cs ++ (c ∷ [])) < width
      → apply_all columns (pieces columns width col run (cs ++ (c ∷ []))) r ≡ with_character (columns c) c (apply_all columns (pieces columns width col run cs) r)

  last_joined : (w : Columns) (c n : ℕ) (run : List ℕ) (col : ℕ) (r : Row) → columns c ≡ w → At columns width run col r → col + n < width
      → apply_all columns (joined width col run n (λ k. pieces columns width k (run ++ (c ∷ [])) [])) r ≡ with_character w c (apply_all columns (pieces columns width col run []) r)
  last_joined w c n run col r q a h =
      ap (λ (ks : List GlassCall). apply_all columns ks r) (goes_on columns width col n run (λ k. pieces columns width k (run ++ (c ∷ [])) []) (omega arith))
      ∙ ended_clears columns width (run ++ (c ∷ [])) (col + n) r h
      ∙ ap cleared (text_append columns run (c ∷ []) r ∙ ap (λ (v : Columns). with_character v c (with_text columns run r)) q)
      ∙ cleared_then (with_text columns run r) (inside_text columns run r a.inside) w c
      ∙ ap (with_character w c) (sym (ended_clears columns width run col r (omega arith)))

  last_by : (w : Columns) (c : ℕ) (run : List ℕ) (col : ℕ) (r : Row) → columns c ≡ w → has_label w ≡ false → At columns width run col r → col + columns_by w c < width
      → apply_all columns (piece w width col run c (λ k more. pieces columns width k more [])) r ≡ with_character w c (apply_all columns (pieces columns width col run []) r)
  last_by NoWidth c run col r q l a h = absurd (true≢false l)
  last_by Zero c run col r q l a h = last_joined Zero c 0 run col r q a h
  last_by One c run col r q l a h = last_joined One c 1 run col r q a h
  last_by Two c run col r q l a h = last_joined Two c 2 run col r q a h

  step_joined : (c : ℕ) (cs : List ℕ) → More c cs → (w : Columns) (x n : ℕ) (run : List ℕ) (col : ℕ) (r : Row) → columns x ≡ w → At columns width run col r
      → (with_character w x (with_text columns run r)).column ≡ col + n → (col + n) + text_columns columns (cs ++ (c ∷ [])) < width
      → apply_all columns (joined width col run n (λ k. pieces columns width k (run ++ (x ∷ [])) (cs ++ (c ∷ [])))) r
      ≡ with_character (columns c) c (apply_all columns (joined width col run n (λ k. pieces columns width k (run ++ (x ∷ [])) cs)) r)
  step_joined c cs on w x n run col r q a e h =
      ap (λ (ks : List GlassCall). apply_all columns ks r) (goes_on columns width col n run (λ k. pieces columns width k (run ++ (x ∷ [])) (cs ++ (c ∷ []))) (omega arith))
      ∙ on (run ++ (x ∷ [])) (col + n) r (record { inside = a.inside; full_width = a.full_width; column = run_column columns ascii width run x col n w r q e }) h
      ∙ ap (λ (ks : List GlassCall). with_character (columns c) c (apply_all columns ks r)) (sym (goes_on columns width col n run (λ k. pieces columns width k (run ++ (x ∷ [])) cs) (omega arith)))

  step_by : (c : ℕ) (cs : List ℕ) → More c cs → (w : Columns) (x : ℕ) (run : List ℕ) (col : ℕ) (r : Row) → columns x ≡ w → At columns width run col r
      → col + (columns_by w x + text_columns columns (cs ++ (c ∷ []))) < width
      → apply_all columns (piece w width col run x (λ k more. pieces columns width k more (cs ++ (c ∷ [])))) r
      ≡ with_character (columns c) c (apply_all columns (piece w width col run x (λ k more. pieces columns width k more cs)) r)
  step_by c cs on NoWidth x run col r q a h =
      let l = take (width - col) (spelling x) in
      let all : l ≡ spelling x = take_all (width - col) (spelling x) (omega arith) in
      let n : length l ≡ length (spelling x) = ap length all in
      let R = with_text columns run r in
      let f = inside_text columns run r a.inside in
      let wR = text_width columns run r in
      let R1 = apply columns (pen ReverseOn) R in
      let f1 : Inside R1 = f in
      let f2 = inside_text columns l R1 f1 in
      let w2 = text_width columns l R1 in
      let k = text_column columns l R1 (all_take columns (width - col) (spelling x) (label_one columns ascii x)) (omega (arith, a.full_width, a.column)) in
      let at : At columns width [] (col + length l) (apply columns (pen ReverseOff) (with_text columns l R1)) =
      record { inside = f2; full_width = w2 ∙ wR ∙ a.full_width; column = k ∙ ap (λ (m : ℕ). m + length l) a.column } in
      sends columns run _ r
      ∙ spelled_on columns width col l (λ k. pieces columns width k [] (cs ++ (c ∷ []))) R (omega arith)
      ∙ on [] (col + length l) _ at (omega arith)
      ∙ ap (with_character (columns c) c) (sym (sends columns run _ r ∙ spelled_on columns width col l (λ k. pieces columns width k [] cs) R (omega arith)))
  step_by c cs on Zero x run col r q a h = step_joined c cs on Zero x 0 run col r q a (omega (arith, a.column)) (omega arith)
  step_by c cs on One x run col r q a h =
      step_joined c cs on One x 1 run col r q a (fits_column 1 (narrow x (with_text columns run r)) (with_text columns run r) (omega (arith, a.column, a.full_width, text_width columns run r)) ∙ ap (λ m. m + 1) a.column) (omega arith)
  step_by c cs on Two x run col r q a h =
      step_joined c cs on Two x 2 run col r q a (fits_column 2 (wide x (with_text columns run r)) (with_text columns run r) (omega (arith, a.column, a.full_width, text_width columns run r)) ∙ ap (λ m. m + 2) a.column) (omega arith)

  pub one_more : (c : ℕ) → has_label (columns c) ≡ false → (cs : List ℕ) → More c cs
  one_more c l [] run col r a h = last_by (columns c) c run col r refl l a (omega arith)
  one_more c l (x ∷ cs) run col r a h = step_by c cs (one_more c l cs) (columns x) x run col r refl a h
