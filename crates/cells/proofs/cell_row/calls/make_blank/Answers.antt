use Rattle.std.proofs.Common.{◌≡◌, ℕ, ◌≤◌, ◌+◌, ◌-◌, ◌++◌, length, take, drop, replicate, ap, ◌∙◌, arith}
use Rattle.std.proofs.lemmas.List.{take-replicate, drop-replicate, replicate-append-replicate}
use Rattle.arrayvec.proofs.ArrayVecLemmas.{items-with_items}
use Rattle.glass.specs.Row.{widest}
use Rattle.cells.specs.declared.table.Slot.{Slot}
use Rattle.cells.specs.Slots.{blank_slot}
use Rattle.cells.proofs.cell_row.calls.make_blank.Goals as goal

-- those that stay, and those that are added
parts : (k w n : ℕ) (s : Slot) → k ≤ w → w ≤ n → take k (replicate n s) ++ take (w - k) (drop k (replicate n s)) ≡ replicate w s
parts k w n s h l =
    let all : k + (w - k) ≡ w = omega arith in
    ap (λ xs. xs ++ take (w - k) (drop k (replicate n s))) (take-replicate k n s (omega arith))
    ∙ ap (λ xs. replicate k s ++ take (w - k) xs) (drop-replicate k n s)
    ∙ ap (λ xs. replicate k s ++ xs) (take-replicate (w - k) (n - k) s (omega arith))
    ∙ replicate-append-replicate k (w - k) s
    ∙ ap (λ m. replicate m s) all

pub returns : goal.returns
returns c =
    let w = c.args.width in
    let k = c.len-kept.result in
    let said = rw c.unwrap.ensures at c.try_extend_from_slice.ensures.ok in
    let over = items-with_items c.truncate.new.self c.copy_from_slice.new.self (c.copy_from_slice.ensures.len ∙ ap length c.deref_mut.ensures.value) in
    let within : k ≤ w = omega (arith, c.truncate.ensures.len, c.len-kept.ensures.value) in
    record { value = said ∙ ap (λ xs. xs ++ take (w - k) (drop k (replicate widest blank_slot))) (over ∙ c.copy_from_slice.ensures.after) ∙ parts k w widest blank_slot within c.requires }
