-- A letter typed at the end: its one text makes the row that a drawing would make.
use Rattle.std.proofs.Common.{◌≡◌, ℕ, ◌+◌, ◌-◌, ◌<◌, ◌≤◌, min, true, false, List, [], ◌∷◌, ◌++◌, length, drop, sym, ap, ◌∙◌, arith, length-append}
use Rattle.std.proofs.lemmas.List.{take_all, drop-append-le}
use Rattle.font.specs.declared.Columns.{Columns}
use Rattle.font.specs.declared.Columns.TheVariants.{One}
use Rattle.font.specs.Labels.{text_columns, has_label}
use Rattle.font.proofs.Texts.{text_columns_append}
use Rattle.glass.specs.Row.{blank_row}
use Rattle.glass.specs.Calls.{apply_all, with_character, at_column}
use Rattle.draft.proofs.Letters.{inserted_at_end, inserted_well as well_after}
use Rattle.draft.specs.Line.{Line, line, with_inserted}
use Rattle.draft.specs.Draft.{draft}
use Rattle.draft.specs.Scroll.{shown_columns, WellScrolled}
use Rattle.drawing.specs.Ascii.{printable}
use Rattle.drawing.specs.Drawing.{text_start, cursor_column, drawing}
use Rattle.drawing.proofs.Letter.{one_more}
use Rattle.drawing.proofs.Goes.{pieces_column}
use Rattle.drawing.proofs.Sight.{head_at, headed, texted, drawing_is}

module _ (columns : ℕ → Columns) where
  pub shown_at_end : (t : List ℕ) (p o : ℕ) → length t ≤ p → shown_columns columns (line t p) o ≡ text_columns columns (drop o t)
  shown_at_end t p o h = ap (λ (xs : List ℕ). text_columns columns (drop o xs)) (take_all p t h)

  dropped_more : (t : List ℕ) (c o : ℕ) → o ≤ length t → text_columns columns (drop o (t ++ (c ∷ []))) ≡ text_columns columns (drop o t) + text_columns columns (c ∷ [])
  dropped_more t c o h = ap (text_columns columns) (drop-append-le o t (c ∷ []) h) ∙ text_columns_append columns (drop o t) (c ∷ [])

  pub inserted_well : (room c : ℕ) (l : Line) (o : ℕ) → l.place ≡ length l.text → WellScrolled columns room l o → shown_columns columns (with_inserted (c ∷ []) l) o + 5 ≤ room
      → WellScrolled columns room (with_inserted (c ∷ []) l) o
  inserted_well room c l o end well fits = well_after columns c l end room o well (omega arith)

module _ (columns : ℕ → Columns) (ascii : (c : ℕ) → 0x20 ≤ c → c ≤ 0x7E → columns c ≡ One) (width : ℕ) (label : List ℕ) (printed : printable label ≡ true) where
  -- with the place at the end of a text that fits, the cursor is where the text left it
  drawn_to_end : (t : List ℕ) (p o : ℕ) → p ≡ length t → text_start label + text_columns columns (drop o t) < width
      → apply_all columns (drawing columns label (draft (line t p) o) width) (blank_row width) ≡ texted columns ascii width label (drop o t)
  drawn_to_end t p o e h =
      let k = pieces_column columns ascii width (drop o t) [] (text_start label) (headed columns ascii width label) (head_at columns ascii width label printed (omega arith)) h in
      let s = shown_at_end columns t p o (omega arith) in
      let m : min (cursor_column columns label (draft (line t p) o)) (width - 1) ≡ (texted columns ascii width label (drop o t)).column = omega arith in
      drawing_is columns ascii width label (draft (line t p) o) ∙ ap (λ (j : ℕ). at_column j (texted columns ascii width label (drop o t))) m

  pub typed_row : (c : ℕ) (l : Line) (o : ℕ) → has_label (columns c) ≡ false → l.place ≡ length l.text → o ≤ l.place
      → text_start label + shown_columns columns (with_inserted (c ∷ []) l) o < width
      → with_character (columns c) c (apply_all columns (drawing columns label (draft l o) width) (blank_row width))
      ≡ apply_all columns (drawing columns label (draft (with_inserted (c ∷ []) l) o) width) (blank_row width)
  typed_row c l o q e h room =
      let t = l.text in
      let n = length-append t (c ∷ []) in
      let i = inserted_at_end c l e in
      let b = ap (λ (x : Line). shown_columns columns x o) i in
      let d = shown_at_end columns (t ++ (c ∷ [])) (l.place + 1) o (omega arith) in
      let m = dropped_more columns t c o (omega arith) in
      let v = drop-append-le o t (c ∷ []) (omega arith) in
      ap (with_character (columns c) c) (drawn_to_end t l.place o e (omega arith))
      ∙ sym (one_more columns ascii width c q (drop o t) [] (text_start label) (headed columns ascii width label) (head_at columns ascii width label printed (omega arith)) (omega (arith, ap (text_columns columns) v)))
      ∙ ap (texted columns ascii width label) (sym v)
      ∙ sym (drawn_to_end (t ++ (c ∷ [])) (l.place + 1) o (omega arith) (omega arith))
      ∙ ap (λ (x : Line). apply_all columns (drawing columns label (draft x o) width) (blank_row width)) (sym i)
