-- Scrolling, one step after another.
use Rattle.std.proofs.Common.{◌≡◌, ℕ, zero, suc, ◌+◌, ◌-◌, ◌<◌, ◌≤◌, ◌⊎◌, List, [], ◌∷◌, ◌++◌, length, get_or, take, drop, refl, inl, inr, sym, ap, ◌∙◌, arith}
use Rattle.std.proofs.Math.Seq.{take-append_seam, get_or-append_seam}
use Rattle.std.proofs.lemmas.List.{at_drop_more, get_or-take, length-take-le, length-append, length-drop, take-take, get_or-drop}
use Rattle.std.proofs.lemmas.Bool.{lt-ltb, le-ltb}
use Rattle.font.specs.declared.Columns.{Columns}
use Rattle.font.specs.Labels.{char_columns, text_columns}
use Rattle.draft.specs.Line.{Line}
use Rattle.draft.specs.Scroll.{margin, shown_columns, fallen, risen, risen_to_place}

-- the last character of a front
pub record LastOfFront (text rest : List ℕ) (o x : ℕ) : Type 0 where
  pub some : 0 < o
  pub before : rest ≡ take (o - 1) text
  pub last : x ≡ get_or text (o - 1) 0

pub last_of_front : (text rest : List ℕ) (o x : ℕ) → o ≤ length text → take o text ≡ rest ++ (x ∷ []) → LastOfFront text rest o x
last_of_front text rest o x h e =
    let size : length rest + 1 ≡ o = sym (length-append rest (x ∷ [])) ∙ ap length (sym e) ∙ length-take-le o text h in
    let n : length rest ≡ o - 1 = omega arith in
    record {
      some = omega arith;
      before = sym (take-append_seam rest (x ∷ [])) ∙ ap (take (length rest)) (sym e) ∙ take-take (length rest) o text (omega arith) ∙ ap (λ k. take k text) n;
      last = sym (get_or-append_seam rest x [] 0) ∙ ap (λ xs. get_or xs (length rest) 0) (sym e) ∙ get_or-take o text (length rest) 0 (omega arith) ∙ ap (λ k. get_or text k 0) n;
    }

module _ (columns : ℕ → Columns) (l : Line) where
  -- one character more on the left
  pub shown_more : (o : ℕ) → o < l.place → l.place ≤ length l.text → shown_columns columns l o ≡ char_columns columns (get_or l.text o 0) + shown_columns columns l (o + 1)
  shown_more o h k =
      let size : length (take l.place l.text) ≡ l.place = length-take-le l.place l.text k in
      let step : shown_columns columns l o ≡ char_columns columns (get_or (take l.place l.text) o 0) + shown_columns columns l (o + 1) = at_drop_more (text_columns columns) (take l.place l.text) o 0 (omega arith) in
      step ∙ ap (λ (c : ℕ). char_columns columns c + shown_columns columns l (o + 1)) (get_or-take l.place l.text o 0 h)

  pub falls_more : (o : ℕ) → 0 < o → shown_columns columns l o < margin → fallen columns l (o - 1) ≡ fallen columns l o
  falls_more zero h k = absurd (omega arith)
  falls_more (suc o) h k =
      let e : suc o - 1 ≡ o = omega arith in
      let t = lt-ltb _ _ k in
      rw (e, t)

  pub falls_no_more : (o : ℕ) → margin ≤ shown_columns columns l o → fallen columns l o ≡ o
  falls_no_more zero h = refl
  falls_no_more (suc o) h = let t = le-ltb _ _ h in rw t

  module _ (most : ℕ) where
    pub stays : (steps o : ℕ) → shown_columns columns l o ≤ most → risen columns most l steps o ≡ o
    stays zero o h = refl
    stays (suc steps) o h = let t = le-ltb _ _ h in rw t

    pub rises_more : (o : ℕ) → o < l.place → most < shown_columns columns l o → risen_to_place columns most l (o + 1) ≡ risen_to_place columns most l o
    rises_more o h k =
        let e : l.place - o ≡ suc (l.place - (o + 1)) = omega arith in
        let q : o + 1 ≡ suc o = omega arith in
        let t = lt-ltb _ _ k in
        rw (e, t, q)

    pub rises_no_more : (o : ℕ) → shown_columns columns l o ≤ most → risen_to_place columns most l o ≡ o
    rises_no_more o h = stays (l.place - o) o h

  -- the loop that falls: what lies out of sight is the front up to the offset, and the sum is that of the columns in sight
  pub record Falling (first : ℕ) (front : List ℕ) (offset sum : ℕ) : Type 0 where
    pub front_is : front ≡ take offset l.text
    pub low : offset ≤ first
    pub same : fallen columns l offset ≡ fallen columns l first
    pub sum_is : sum ≡ shown_columns columns l offset

  pub falls_on : (first : ℕ) (front rest : List ℕ) (offset sum x width : ℕ) → first ≤ l.place → l.place ≤ length l.text
      → Falling first front offset sum → front ≡ rest ++ (x ∷ []) → width ≡ char_columns columns x → sum < margin
      → Falling first rest (offset - 1) (sum + width)
  falls_on first front rest o sum x width h k f e wide few =
      let low = f.low in
      let here = last_of_front l.text rest o x (omega arith) (sym f.front_is ∙ e) in
      let some = here.some in
      let back : o - 1 + 1 ≡ o = omega arith in
      let total = f.sum_is in
      let step = shown_more (o - 1) (omega arith) k in
      let now = ap (shown_columns columns l) back in
      let last = ap (char_columns columns) here.last in
      record {
        front_is = here.before;
        low = omega arith;
        same = falls_more o some (omega arith) ∙ f.same;
        sum_is = omega arith;
      }

  -- it ends where nothing is out of sight, or enough is in sight
  pub fallen_at : (first : ℕ) (front : List ℕ) (offset sum : ℕ) → first ≤ l.place → l.place ≤ length l.text
      → Falling first front offset sum → (length front ≡ 0) ⊎ (margin ≤ sum) → fallen columns l first ≡ offset
  fallen_at first front o sum h k f (inl none) =
      let low = f.low in
      let size : length front ≡ o = ap length f.front_is ∙ length-take-le o l.text (omega arith) in
      let zero_is : o ≡ 0 = omega arith in
      sym f.same ∙ ap (fallen columns l) zero_is ∙ sym zero_is
  fallen_at first front o sum h k f (inr enough) = let total = f.sum_is in sym f.same ∙ falls_no_more o (omega arith)

  module _ (most first : ℕ) where
    -- the characters from an offset up to the place
    abbrev pub in_sight : List ℕ
    in_sight = take (l.place - first) (drop first l.text)

    in_sight_is : first ≤ l.place → l.place ≤ length l.text → length in_sight ≡ l.place - first
    in_sight_is h k = length-take-le (l.place - first) (drop first l.text) (omega (arith, length-drop first l.text))

    -- the loop that rises: the sum is that of the columns in sight
    pub record Rising (index offset sum : ℕ) : Type 0 where
      pub at : offset ≡ first + index
      pub same : risen_to_place columns most l offset ≡ risen_to_place columns most l first
      pub sum_is : sum ≡ shown_columns columns l offset

    pub rises_on : (index offset sum width : ℕ) → first ≤ l.place → l.place ≤ length l.text
        → Rising index offset sum → index < length in_sight → width ≡ char_columns columns (get_or in_sight index 0) → most < sum
        → (width ≤ sum) × Rising (index + 1) (offset + 1) (sum - width)
    rises_on index o sum width h k f more wide many =
        let total = f.sum_is in
        let at = f.at in
        let size = in_sight_is h k in
        let step = shown_more o (omega arith) k in
        let code : get_or in_sight index 0 ≡ get_or l.text o 0 = get_or-take (l.place - first) (drop first l.text) index 0 (omega arith) ∙ get_or-drop first l.text index 0 ∙ ap (λ n. get_or l.text n 0) (sym at) in
        let here = ap (char_columns columns) code in (
          omega arith,
          record {
            at = omega arith;
            same = rises_more most o (omega arith) (omega arith) ∙ f.same;
            sum_is = omega arith;
          },
        )

    -- it ends at the place, or where few enough are in sight
    pub risen_at : (index offset sum : ℕ) → first ≤ l.place → l.place ≤ length l.text
        → Rising index offset sum → (index ≡ length in_sight) ⊎ (sum ≤ most) → risen_to_place columns most l first ≡ offset
    risen_at index o sum h k f (inl end) =
        let size = in_sight_is h k in
        let at = f.at in
        let none : l.place - o ≡ 0 = omega arith in
        sym f.same ∙ ap (λ n. risen columns most l n o) none
    risen_at index o sum h k f (inr few) = let total = f.sum_is in sym f.same ∙ rises_no_more most o (omega arith)
