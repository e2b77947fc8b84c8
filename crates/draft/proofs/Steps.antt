-- Left goes one place before what a walk back over marks comes to.
use Rattle.std.proofs.Common.{◌≡◌, ℕ, zero, suc, ◌-◌, true, false, List, get_or, arith, ⊎_elim}
use Rattle.std.proofs.lemmas.Bool.{cases_Bool}
use Rattle.font.specs.declared.Columns.{Columns}
use Rattle.font.specs.Labels.{is_mark}
use Rattle.text.specs.Walks.{back_past}
use Rattle.draft.specs.Line.{left_from}

pub left_from_is : (columns : ℕ → Columns) (text : List ℕ) (place : ℕ) → left_from columns text place ≡ back_past (λ c. is_mark (columns c)) text place - 1
left_from_is columns text zero = omega arith
left_from_is columns text (suc place) =
    ⊎_elim
    (λ (t : is_mark (columns (get_or text place 0)) ≡ true). rw t (left_from_is columns text place))
    (λ (f : is_mark (columns (get_or text place 0)) ≡ false). rw f (omega arith))
    (cases_Bool (is_mark (columns (get_or text place 0))))
