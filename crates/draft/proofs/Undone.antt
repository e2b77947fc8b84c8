-- Left after Right.
use Rattle.std.proofs.Common.{◌≡◌, ℕ, zero, suc, ◌+◌, ◌<◌, ◌≤◌, Bool, true, false, List, length, get_or, sym, ap, ◌∙◌, inl, inr, ⊎_elim, arith}
use Rattle.std.proofs.lemmas.Bool.{cases_lt, cases_Bool, lt-ltb, le-ltb}
use Rattle.font.specs.declared.Columns.{Columns}
use Rattle.font.specs.Labels.{is_mark}
use Rattle.text.specs.Walks.{on_past}
use Rattle.draft.specs.Line.{Line, moved_to, left_from, left_of, right_of}
use Rattle.draft.specs.Walks.{AllPass}
use Rattle.draft.specs.Clusters.{StartsCluster, LeftUndoesRight, LeftUndoesRightOnlyThere}
use Rattle.draft.proofs.Furthest.{on_past_passes}

module _ (columns : ℕ → Columns) (text : List ℕ) where
  abbrev mark : ℕ → Bool
  mark c = is_mark (columns c)

  -- back over marks
  over_marks : (n from : ℕ) → AllPass mark text from (from + n) → left_from columns text (from + n) ≡ left_from columns text from
  over_marks zero from h = let e : from + 0 ≡ from = omega arith in rw e
  over_marks (suc n) from h =
      let e : from + suc n ≡ suc (from + n) = omega arith in
      let t : mark (get_or text (from + n) 0) ≡ true = h (from + n) (omega arith) (omega arith) in
      rw (e, t) (over_marks n from (λ k a b. h k a (omega arith)))

  from_first : left_from columns text 1 ≡ 0
  from_first =
      ⊎_elim
      (λ (t : mark (get_or text 0 0) ≡ true). rw t)
      (λ (f : mark (get_or text 0 0) ≡ false). rw f)
      (cases_Bool (mark (get_or text 0 0)))

  left_goes_back : (n : ℕ) → 0 < n → left_from columns text n < n
  left_goes_back zero h = absurd (omega arith)
  left_goes_back (suc zero) h = omega (arith, from_first)
  left_goes_back (suc (suc n)) h =
      ⊎_elim
      (λ (t : mark (get_or text (suc n) 0) ≡ true). let b = left_goes_back (suc n) (omega arith) in rw t (omega arith))
      (λ (f : mark (get_or text (suc n) 0) ≡ false). rw f (omega arith))
      (cases_Bool (mark (get_or text (suc n) 0)))

  -- where Right goes on, Left comes back as from one place on
  back_again : (place : ℕ) → left_from columns text (on_past mark text (place + 1)) ≡ left_from columns text (suc place)
  back_again place =
      let e : place + 1 ≡ suc place = omega arith in
      over_marks _ (place + 1) (on_past_passes mark text (place + 1)) ∙ ap (left_from columns text) e

module _ (columns : ℕ → Columns) (l : Line) where
  abbrev back : ℕ
  back = left_of columns (moved_to (right_of columns l) l)

  within_line : l.place < length l.text → back ≡ left_from columns l.text (suc l.place)
  within_line h = let t = lt-ltb _ _ h in rw t (back_again columns l.text l.place)

  at_the_end : length l.text ≤ l.place → back ≡ left_from columns l.text l.place
  at_the_end h = let t = le-ltb _ _ h in rw t

  past_mark : mark columns l.text (get_or l.text l.place 0) ≡ true → left_from columns l.text (suc l.place) ≡ left_from columns l.text l.place
  past_mark t = rw t

  at_the_start : l.place ≡ 0 → back ≡ l.place
  at_the_start z =
      ⊎_elim
      (λ (h : l.place < length l.text). within_line h ∙ ap (λ (n : ℕ). left_from columns l.text (suc n)) z ∙ from_first columns l.text ∙ sym z)
      (λ (h : length l.text ≤ l.place). at_the_end h ∙ ap (left_from columns l.text) z ∙ sym z)
      (cases_lt l.place (length l.text))

  -- a place that is not at the start of a cluster is not come back to
  comes_back : 0 < l.place → back ≡ l.place → StartsCluster columns l
  comes_back up e =
      let lower = left_goes_back columns l.text l.place up in
      ⊎_elim
      (λ (h : l.place < length l.text).
      ⊎_elim
      (λ (t : mark columns l.text (get_or l.text l.place 0) ≡ true). let a = within_line h in let b = past_mark t in absurd (omega arith))
      (λ (f : mark columns l.text (get_or l.text l.place 0) ≡ false). inr (h, f))
      (cases_Bool (mark columns l.text (get_or l.text l.place 0))))
      (λ (h : length l.text ≤ l.place). let a = at_the_end h in absurd (omega arith))
      (cases_lt l.place (length l.text))

pub left_undoes_right : LeftUndoesRight
left_undoes_right columns l (inl z) = at_the_start columns l z
left_undoes_right columns l (inr (h, f)) = within_line columns l h ∙ rw f

pub left_undoes_right_only_there : LeftUndoesRightOnlyThere
left_undoes_right_only_there columns l e =
    ⊎_elim
    (λ (up : 0 < l.place). comes_back columns l up e)
    (λ (z : l.place ≤ 0). inl (omega arith))
    (cases_lt 0 l.place)
