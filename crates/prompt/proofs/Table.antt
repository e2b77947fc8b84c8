-- The table of refusals, row by row.
use Rattle.std.proofs.Common.{◌≡◌, ℕ, ◌+◌, ◌≤◌, Bool, true, false, cond, not, ltb, leb, List, ◌++◌, length, Some, None, refl, arith, sym}
use lib.Utf8.{scalar}
use Rattle.text.specs.declared.refusal.Refusal.{Refusal}
use Rattle.text.specs.declared.refusal.Refusal.TheVariants.{DraftFull, IllFormed}
use Rattle.text.specs.Utf8.{characters, well_formed, front_length}
use Rattle.draft.specs.Line.{capacity}
use Rattle.draft.specs.Draft.{Draft}
use Rattle.draft.specs.Edits.{pasting_refused}
use Rattle.prompt.specs.declared.keys.KeyEvent.{KeyEvent}
use Rattle.prompt.specs.declared.keys.Edit.TheVariants.{Insert, Remove, Move, Transpose}
use Rattle.prompt.specs.declared.keys.Operation.{Operation}
use Rattle.prompt.specs.declared.keys.Operation.TheVariants as operation
use Rattle.prompt.specs.Keys.{operation as operation_of, typing}
use Rattle.prompt.specs.Requests.{key, paste}
use Rattle.prompt.specs.Refused.{Reason, first_of, glass_reasons, own_reasons, carries_scalar, operation_refused, typed}

-- what the glass is refused for comes first, whatever comes after it
pub early : (n w s : ℕ) (rest : List Reason) (e : Refusal) → Some e ≡ first_of (glass_reasons n w s) → first_of (glass_reasons n w s ++ rest) ≡ Some e
early n w s rest e h = grind arith

pub late : (n w s : ℕ) (rest : List Reason) → None ≡ first_of (glass_reasons n w s) → first_of (glass_reasons n w s ++ rest) ≡ first_of rest
late n w s rest h = grind arith

-- a text of scalar values is refused for its length alone
fits_or_not : (n : ℕ) → cond (ltb capacity n) (Some DraftFull) None ≡ cond (leb n capacity) None (Some DraftFull)
fits_or_not n = grind arith

not_too_long : (n : ℕ) → n ≤ capacity → cond (ltb capacity (n + 0)) (Some DraftFull) None ≡ None
not_too_long n few = grind arith

operation_by_length : (o : Operation) (d : Draft) → length d.line.text ≤ capacity → ((c : ℕ) → o ≡ typing c → scalar c ≡ true)
    → cond (ltb capacity (length d.line.text + typed o)) (Some DraftFull) None ≡ operation_refused o d
operation_by_length (operation.Edit (Insert c)) d few s = rw (s c refl) (fits_or_not (length d.line.text + 1))
operation_by_length (operation.Edit (Remove r)) d few s = not_too_long (length d.line.text) few
operation_by_length (operation.Edit (Move m)) d few s = not_too_long (length d.line.text) few
operation_by_length (operation.Edit Transpose) d few s = not_too_long (length d.line.text) few
operation_by_length operation.Finish d few s = not_too_long (length d.line.text) few
operation_by_length operation.Cancel d few s = not_too_long (length d.line.text) few
operation_by_length operation.Previous d few s = not_too_long (length d.line.text) few
operation_by_length operation.Next d few s = not_too_long (length d.line.text) few
operation_by_length operation.Ignore d few s = not_too_long (length d.line.text) few

-- only a character key types, and it types its character
pub types_scalars : (event : KeyEvent) (o : Operation) → o ≡ operation_of event → carries_scalar event.key ≡ true → (c : ℕ) → o ≡ typing c → scalar c ≡ true
types_scalars event o is s c e = grind arith

-- a key that carries no surrogate is refused where its operation is
pub key_by_operation : (event : KeyEvent) (o : Operation) (d : Draft) → o ≡ operation_of event → length d.line.text ≤ capacity → carries_scalar event.key ≡ true
    → first_of (own_reasons (key event) (length d.line.text)) ≡ operation_refused o d
key_by_operation event o d is few s =
    rw (s, sym is) (operation_by_length o d few (types_scalars event o is s))

paste_by_rows : (b : Bool) (bytes : List ℕ) (d : Draft)
    → cond (not b) (Some (IllFormed (front_length bytes))) (cond (ltb capacity (length d.line.text + length (characters bytes))) (Some DraftFull) None)
    ≡ cond b (cond (leb (length d.line.text + length (characters bytes)) capacity) None (Some DraftFull)) (Some (IllFormed (front_length bytes)))
paste_by_rows true bytes d = fits_or_not (length d.line.text + length (characters bytes))
paste_by_rows false bytes d = refl

-- and a paste where its text may not come in
pub paste_by_text : (bytes : List ℕ) (d : Draft) → first_of (own_reasons (paste bytes) (length d.line.text)) ≡ pasting_refused bytes d
paste_by_text bytes d = paste_by_rows (well_formed bytes) bytes d
