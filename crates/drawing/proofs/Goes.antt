-- Pieces that fit: where each leaves the cursor, and that its character shows whole at the end.
use Rattle.std.proofs.Common.{◌≡◌, ℕ, zero, suc, ◌+◌, ◌-◌, ◌<◌, ◌≤◌, true, false, List, [], ◌∷◌, ◌++◌, length, get_or, take, sym, refl, ap, ◌∙◌, subst, arith}
use Rattle.std.proofs.lemmas.List.{take_all}
use Rattle.font.specs.declared.Columns.{Columns}
use Rattle.font.specs.declared.Columns.TheVariants.{NoWidth, Zero, One, Two}
use Rattle.font.specs.Labels.{label as spelling, columns_by, char_columns, text_columns, has_label}
use Rattle.glass.specs.declared.PenChange.TheVariants.{ReverseOn, ReverseOff}
use Rattle.glass.specs.Row.{Row, width_of}
use Rattle.glass.specs.declared.Pen.{Pen}
use Rattle.glass.specs.Calls.{GlassCall, pen, apply, apply_all, with_text, with_character, narrow, wide}
use Rattle.glass.proofs.Front.{Inside, text_width, inside_text}
use Rattle.glass.proofs.Text.{text_append, text_column, fits_column}
use Rattle.drawing.proofs.Ones.{label_one}
use Rattle.glass.proofs.Keeps.{Keeps, keeps_with, keeps_text}
use Rattle.drawing.specs.Drawing.{spelled, piece, pieces}
use Rattle.drawing.specs.Shows.{ShowsLabel, ShowsBy, ShowsWhole}
use Rattle.drawing.proofs.Forgets.{sends}
use Rattle.drawing.proofs.Letter.{At, ended_clears, goes_on, spelled_on}
use Rattle.drawing.proofs.Visible.{shows_kept, pieces_keep}
use Rattle.drawing.proofs.Fresh.{Anchored, anchored_kept, character_shows, text_writes}

module _ (columns : ℕ → Columns) (ascii : (c : ℕ) → 0x20 ≤ c → c ≤ 0x7E → columns c ≡ One) (width : ℕ) where
  -- a piece that fits hands on to the next, with a new run on a new row
  pub record Goes (w : Columns) (c : ℕ) (run : List ℕ) (col : ℕ) (r : Row) : Type 0 where
    pub run' : List ℕ
    pub row' : Row
    pub at : At columns width run' (col + columns_by w c) row'
    pub hands_on : (on : ℕ → List ℕ → List GlassCall) → apply_all columns (piece w width col run c on) r ≡ apply_all columns (on (col + columns_by w c) run') row'
    pub keeps : Keeps (with_text columns run r) (with_text columns run' row')
    pub shows : Anchored (with_text columns run r) → ShowsBy w (with_text columns run' row').cells col c

  -- a character without a label joins the run
  joins : (w : Columns) (c n : ℕ) (run : List ℕ) (col : ℕ) (r : Row) → columns c ≡ w → has_label w ≡ false → columns_by w c ≡ n → At columns width run col r
      → (with_character w c (with_text columns run r)).column ≡ col + n → col + n ≤ width
      → ((on : ℕ → List ℕ → List GlassCall) → apply_all columns (piece w width col run c on) r ≡ apply_all columns (on (col + columns_by w c) (run ++ (c ∷ []))) r)
      → Goes w c run col r
  joins w c n run col r q l m a e h on =
      let R = with_text columns run r in
      let f = inside_text columns run r a.inside in
      let t : with_text columns (run ++ (c ∷ [])) r ≡ with_character w c R = text_append columns run (c ∷ []) r ∙ ap (λ (v : Columns). with_character v c R) q in
      record {
        run' = run ++ (c ∷ []);
        row' = r;
        at = record { inside = a.inside; full_width = a.full_width; column = ap (λ (x : Row). x.column) t ∙ e ∙ ap (λ (k : ℕ). col + k) (sym m) };
        hands_on = on;
        keeps = subst (λ (x : Row). Keeps R x) (sym t) (keeps_with w c R);
        shows = λ k. subst (λ (x : Row). ShowsBy w x.cells col c) (sym t)
            (subst (λ (x : ℕ). ShowsBy w (with_character w c R).cells x c) a.column
            (character_shows w c R l f k (omega (arith, a.column, a.full_width, text_width columns run r))));
      }

  -- a label that fits stands in the row, whole and reversed
  label_shows : (c : ℕ) (r : Row) → Inside r → r.column + length (spelling c) ≤ width_of r → r.pen.reversed ≡ true → ShowsLabel (with_text columns (spelling c) r).cells r.column (spelling c)
  label_shows c r f h v = record {
    each_character = λ k b. (text_writes columns (spelling c) r f (label_one columns ascii c) h k b).ink;
    each_reversed = λ k b. ap (λ (p : Pen). p.reversed) (text_writes columns (spelling c) r f (label_one columns ascii c) h k b).pen ∙ v;
  }

  pub goes : (w : Columns) (c : ℕ) (run : List ℕ) (col : ℕ) (r : Row) → columns c ≡ w → At columns width run col r → col + columns_by w c < width → Goes w c run col r
  goes NoWidth c run col r q a h =
      let all : take (width - col) (spelling c) ≡ spelling c = take_all (width - col) (spelling c) (omega arith) in
      let R = with_text columns run r in
      let f = inside_text columns run r a.inside in
      let wR = text_width columns run r in
      let R1 = apply columns (pen ReverseOn) R in
      let f1 : Inside R1 = f in
      let R2 = with_text columns (spelling c) R1 in
      let f2 = inside_text columns (spelling c) R1 f1 in
      let b : R1.column + length (spelling c) ≤ width_of R1 = omega (arith, a.full_width, a.column) in
      let k = text_column columns (spelling c) R1 (label_one columns ascii c) b in
      let kept = keeps_text columns (spelling c) R1 in
      record {
        run' = [];
        row' = apply columns (pen ReverseOff) R2;
        at = record { inside = f2; full_width = text_width columns (spelling c) R1 ∙ wR ∙ a.full_width; column = k ∙ ap (λ (m : ℕ). m + length (spelling c)) a.column };
        hands_on = λ on.
            sends columns run (spelled width col (take (width - col) (spelling c)) (λ j. on j [])) r
            ∙ ap (λ (l : List ℕ). apply_all columns (spelled width col l (λ j. on j [])) R) all
            ∙ spelled_on columns width col (spelling c) (λ j. on j []) R h;
        keeps = record { on = kept.on; cells = kept.cells };
        shows = λ _. subst (λ (x : ℕ). ShowsLabel R2.cells x (spelling c)) a.column (label_shows c R1 f1 b refl);
      }
  goes Zero c run col r q a h =
      joins Zero c 0 run col r q refl refl a (omega (arith, a.column)) (omega arith)
      (λ on. ap (λ (ks : List GlassCall). apply_all columns ks r) (goes_on columns width col 0 run (λ k. on k (run ++ (c ∷ []))) (omega arith)))
  goes One c run col r q a h =
      joins One c 1 run col r q refl refl a
      (fits_column 1 (narrow c (with_text columns run r)) (with_text columns run r) (omega (arith, a.column, a.full_width, text_width columns run r)) ∙ ap (λ m. m + 1) a.column) (omega arith)
      (λ on. ap (λ (ks : List GlassCall). apply_all columns ks r) (goes_on columns width col 1 run (λ k. on k (run ++ (c ∷ []))) (omega arith)))
  goes Two c run col r q a h =
      joins Two c 2 run col r q refl refl a
      (fits_column 2 (wide c (with_text columns run r)) (with_text columns run r) (omega (arith, a.column, a.full_width, text_width columns run r)) ∙ ap (λ m. m + 2) a.column) (omega arith)
      (λ on. ap (λ (ks : List GlassCall). apply_all columns ks r) (goes_on columns width col 2 run (λ k. on k (run ++ (c ∷ []))) (omega arith)))

  -- after a text that fits the cursor is past its columns
  pub pieces_column : (cs : List ℕ) (run : List ℕ) (col : ℕ) (r : Row) → At columns width run col r → col + text_columns columns cs < width
      → (apply_all columns (pieces columns width col run cs) r).column ≡ col + text_columns columns cs
  pieces_column [] run col r a h =
      ap (λ (x : Row). x.column) (ended_clears columns width run col r (omega arith)) ∙ omega (arith, a.column)
  pieces_column (c ∷ cs) run col r a h =
      let g = goes (columns c) c run col r refl a (omega arith) in
      ap (λ (x : Row). x.column) (g.hands_on (λ k more. pieces columns width k more cs))
      ∙ pieces_column cs g.run' (col + char_columns columns c) g.row' g.at (omega arith)
      ∙ omega arith

  -- every character up to one that fits shows whole when the drawing ends
  pub pieces_show : (cs : List ℕ) (run : List ℕ) (col : ℕ) (r : Row) → At columns width run col r → Anchored (with_text columns run r)
      → (k : ℕ) → k < length cs → col + text_columns columns (take (suc k) cs) < width
      → ShowsWhole columns (apply_all columns (pieces columns width col run cs) r).cells (col + text_columns columns (take k cs)) (get_or cs k 0)
  pieces_show [] run col r a n k b h = absurd (omega arith)
  pieces_show (c ∷ cs) run col r a n zero b h =
      let g = goes (columns c) c run col r refl a (omega arith) in
      let z : col ≡ col + 0 = omega arith in
      let end = apply_all columns (pieces columns width (col + char_columns columns c) g.run' cs) g.row' in
      let s : ShowsBy (columns c) end.cells col c =
      shows_kept (columns c) c col (with_text columns g.run' g.row') end (pieces_keep columns width cs g.run' (col + char_columns columns c) g.row' g.at.inside) (omega (arith, g.at.column)) (g.shows n) in
      subst (λ (x : Row). ShowsBy (columns c) x.cells (col + 0) c) (sym (g.hands_on (λ k more. pieces columns width k more cs)))
      (subst (λ (x : ℕ). ShowsBy (columns c) end.cells x c) z s)
  pieces_show (c ∷ cs) run col r a n (suc k) b h =
      let g = goes (columns c) c run col r refl a (omega arith) in
      let z : (col + char_columns columns c) + text_columns columns (take k cs) ≡ col + (char_columns columns c + text_columns columns (take k cs)) = omega arith in
      let end = apply_all columns (pieces columns width (col + char_columns columns c) g.run' cs) g.row' in
      let s = pieces_show cs g.run' (col + char_columns columns c) g.row' g.at (anchored_kept (with_text columns run r) _ g.keeps n) k (omega arith) (omega arith) in
      subst (λ (x : Row). ShowsWhole columns x.cells (col + (char_columns columns c + text_columns columns (take k cs))) (get_or cs k 0)) (sym (g.hands_on (λ k more. pieces columns width k more cs)))
      (subst (λ (x : ℕ). ShowsWhole columns end.cells x (get_or cs k 0)) z s)
