-- What is read back of a cell is what the row shows there.
use Rattle.std.proofs.Common.{◌≡◌, ◌≢◌, ℕ, ◌<◌, Option, slice_index_or, refl}
use Rattle.std.proofs.lemmas.Bool.{lt-ltb, eq-eqb, ne_eqb}
use Rattle.std.specs.Option.{unwrap_or}
use Rattle.glass.specs.Row.{Row, blank_cell, width_of}
use Rattle.cells.specs.Shows.{slot_of, slot_shown}
use Rattle.cells.specs.Slots.{blank_slot}
use Rattle.cells.specs.declared.table.Slot.{Slot}
use Rattle.transcript.specs.Showing.{sign, sign_at}

pub slot_is_shown : (r : Row) (k : ℕ) (read : Option Slot) (slot : Slot) → k < width_of r → read ≡ slot_shown r k → slot ≡ unwrap_or read blank_slot → slot ≡ slot_of (slice_index_or r.cells k blank_cell)
slot_is_shown r k read slot inside shown is = rw (is, shown, lt-ltb k (width_of r) inside) refl

pub sign_at_cursor : (r : Row) (k : ℕ) → k ≡ r.column → sign_at r k ≡ 0x5F
sign_at_cursor r k here = rw (eq-eqb k r.column here) refl

pub sign_elsewhere : (r : Row) (k : ℕ) (slot : Slot) → k ≢ r.column → slot ≡ slot_of (slice_index_or r.cells k blank_cell) → sign slot.pen ≡ sign_at r k
sign_elsewhere r k slot other is = rw (is, ne_eqb k r.column other) refl
