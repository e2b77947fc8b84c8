-- In the row that a drawing of a well scrolled draft makes, the cursor is in sight.
use Rattle.std.proofs.Common.{◌≡◌, ℕ, suc, ◌+◌, ◌-◌, ◌<◌, ◌≤◌, min, true, List, [], ◌∷◌, ◌++◌, length, get_or, take, drop, sym, ap, ◌∙◌, subst, inl, inr, ⊎_elim, arith, length-append, length-drop}
use lib.ListN.{length-replicate}
use Rattle.std.proofs.lemmas.List.{drop-take, get_or-drop}
use Rattle.font.specs.declared.Columns.{Columns}
use Rattle.font.specs.declared.Columns.TheVariants.{One}
use Rattle.font.specs.Labels.{text_columns, between}
use Rattle.font.proofs.Texts.{text_columns_take_more}
use Rattle.glass.specs.declared.PenChange.TheVariants.{Plain, Prompt}
use Rattle.glass.specs.Row.{Row, blank_cell, blank_row, is_right_half, width_of}
use Rattle.glass.specs.Calls.{place, pen, apply, apply_all, with_text, at_column}
use Rattle.glass.proofs.Front.{Inside, text_width, inside_text}
use Rattle.glass.proofs.Text.{text_column, AllOne, all_append}
use Rattle.draft.specs.Line.{line}
use Rattle.draft.specs.Draft.{Draft}
use Rattle.draft.specs.Scroll.{shown_columns, WellScrolled}
use Rattle.drawing.specs.Ascii.{printable}
use Rattle.drawing.specs.Drawing.{pieces, text_start, cursor_column, drawing}
use Rattle.drawing.specs.Shows.{ShowsWhole}
use Rattle.drawing.specs.Sight.{CursorInSight}
use Rattle.drawing.proofs.Forgets.{printable_one}
use Rattle.drawing.proofs.Letter.{At}
use Rattle.drawing.proofs.Fresh.{Anchored, text_writes}
use Rattle.drawing.proofs.Goes.{pieces_show}
use Rattle.glass.proofs.Drew.{apply_append}

module _ (columns : ℕ → Columns) (ascii : (c : ℕ) → 0x20 ≤ c → c ≤ 0x7E → columns c ≡ One) (width : ℕ) where
  -- the two spaces, the label and a space, and then a plain space
  abbrev titled : List ℕ → Row → Row
  titled label r = apply columns (pen Plain) (with_text columns (0x20 ∷ 0x20 ∷ (label ++ (0x20 ∷ []))) (apply columns (pen Prompt) (apply columns (place 0) r)))

  abbrev pub headed : List ℕ → Row
  headed label = with_text columns (0x20 ∷ []) (titled label (blank_row width))

  space : AllOne columns (0x20 ∷ [])
  space = (ascii 0x20 (omega arith) (omega arith), tt)

  titled_at : (label : List ℕ) → printable label ≡ true → text_start label ≤ width → At columns width [] (length label + 3) (titled label (blank_row width))
  titled_at label p h =
      let head = 0x20 ∷ 0x20 ∷ (label ++ (0x20 ∷ [])) in
      let r = apply columns (pen Prompt) (apply columns (place 0) (blank_row width)) in
      let ones : AllOne columns head = (space.0, (space.0, all_append columns label (0x20 ∷ []) (printable_one columns ascii width label p) space)) in
      let n = length-append label (0x20 ∷ []) in
      let n0 = length-replicate width blank_cell in
      let f0 : Inside r = omega arith in
      let f = inside_text columns head r f0 in
      record { inside = f; full_width = text_width columns head r ∙ n0; column = text_column columns head r ones (omega arith) ∙ omega arith }

  pub head_at : (label : List ℕ) → printable label ≡ true → text_start label ≤ width → At columns width [] (text_start label) (headed label)
  head_at label p h =
      let a = titled_at label p h in
      let r = titled label (blank_row width) in
      record {
        inside = inside_text columns (0x20 ∷ []) r a.inside;
        full_width = text_width columns (0x20 ∷ []) r ∙ a.full_width;
        column = text_column columns (0x20 ∷ []) r space (omega (arith, a.column, a.full_width)) ∙ omega (arith, a.column);
      }

  pub head_anchored : (label : List ℕ) → printable label ≡ true → text_start label ≤ width → Anchored (headed label)
  head_anchored label p h =
      let a = titled_at label p h in
      let b = head_at label p h in
      let r = titled label (blank_row width) in
      let s = text_writes columns (0x20 ∷ []) r a.inside space (omega (arith, a.column, a.full_width)) 0 (omega arith) in
      record { cell = r.column + 0; left = omega (arith, a.column, b.column); solid = ap is_right_half s.ink }

  -- a text drawn after the label, before the cursor is placed
  abbrev pub texted : List ℕ → List ℕ → Row
  texted label cs = apply_all columns (pieces columns width (text_start label) [] cs) (headed label)

  pub drawing_is : (label : List ℕ) (d : Draft) → apply_all columns (drawing columns label d width) (blank_row width) ≡ at_column (min (cursor_column columns label d) (width - 1)) (texted label (drop d.offset d.line.text))
  drawing_is label d = apply_append columns (pieces columns width (text_start label) [] (drop d.offset d.line.text)) (place (min (cursor_column columns label d) (width - 1)) ∷ []) (headed label)

  module _ (label : List ℕ) (printed : printable label ≡ true) (d : Draft) (inside : d.line.place ≤ length d.line.text) (big : text_start label + 5 ≤ width) (well : WellScrolled columns (width - text_start label) d.line d.offset) where
    abbrev shown_text : List ℕ
    shown_text = drop d.offset d.line.text

    pub cursor_free : cursor_column columns label d + 5 ≤ width
    cursor_free = omega (arith, well.margin_on_the_right)

    shown_to_place : shown_columns columns d.line d.offset ≡ text_columns columns (take (d.line.place - d.offset) shown_text)
    shown_to_place =
        let e : d.line.place ≡ d.offset + (d.line.place - d.offset) = omega (arith, well.offset_up_to_place) in
        ap (λ (k : ℕ). text_columns columns (between d.offset k d.line.text)) e
        ∙ ap (text_columns columns) (drop-take d.offset (d.line.place - d.offset) d.line.text)

    at_index : (n : ℕ) → d.offset + n < d.line.place
        → ShowsWhole columns (texted label shown_text).cells (text_start label + shown_columns columns (line d.line.text (d.offset + n)) d.offset) (get_or d.line.text (d.offset + n) 0)
    at_index n h =
        let m = text_columns_take_more columns (suc n) (d.line.place - d.offset) shown_text (omega arith) in
        let s = pieces_show columns ascii width shown_text [] (text_start label) (headed label) (head_at label printed (omega arith)) (head_anchored label printed (omega arith)) n
        (omega (arith, length-drop d.offset d.line.text, inside)) (omega (arith, m, shown_to_place, cursor_free)) in
        subst (λ (cs : List ℕ). ShowsWhole columns (texted label shown_text).cells (text_start label + text_columns columns cs) (get_or d.line.text (d.offset + n) 0)) (sym (drop-take d.offset n d.line.text))
        (subst (λ (c : ℕ). ShowsWhole columns (texted label shown_text).cells (text_start label + text_columns columns (take n shown_text)) c) (get_or-drop d.offset d.line.text n 0) s)

    at_place : (k : ℕ) → d.offset ≤ k → k < d.line.place
        → ShowsWhole columns (texted label shown_text).cells (text_start label + shown_columns columns (line d.line.text k) d.offset) (get_or d.line.text k 0)
    at_place k o h =
        let e : d.offset + (k - d.offset) ≡ k = omega arith in
        subst (λ (j : ℕ). ShowsWhole columns (texted label shown_text).cells (text_start label + shown_columns columns (line d.line.text j) d.offset) (get_or d.line.text j 0)) e
        (at_index (k - d.offset) (omega arith))

    pub sight : (r : Row) → width_of r ≡ width → r ≡ apply_all columns (drawing columns label d width) (blank_row width) → CursorInSight columns label d r
    sight r w e =
        let f = e ∙ drawing_is label d in
        let k : r.column ≡ cursor_column columns label d = ap (λ (x : Row). x.column) f ∙ omega (arith, cursor_free) in
        record {
          cursor_is_at_the_place = k;
          cursor_has_five_on_its_right = omega (arith, cursor_free);
          characters_show_whole = λ j o h. subst (λ (x : Row). ShowsWhole columns x.cells (text_start label + shown_columns columns (line d.line.text j) d.offset) (get_or d.line.text j 0)) (sym f) (at_place j o h);
          scrolled_no_further = ⊎_elim inl (λ t. inr (⊎_elim inl (λ u. inr (omega arith)) t)) well.no_further_than_needed;
        }
