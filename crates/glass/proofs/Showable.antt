-- A call that is not outside the glass keeps the row one that a glass can show.
use Rattle.std.proofs.Common.{◌≡◌, ℕ, false, arith, ltb-false, leb-false}
use lib.ListN.{length-replicate}
use Rattle.std.proofs.lemmas.Bool.{or_parts}
use Rattle.font.specs.declared.Columns.{Columns}
use Rattle.glass.specs.Row.{Row, Showable, blank_cell, widest, width_of}
use Rattle.glass.specs.Calls.{GlassCall, place, pen, text, clear, reshape, apply, outside}
use Rattle.glass.proofs.Front.{text_width, cleared_width, inside_text}

pub showable_blank : Showable (Rattle.glass.specs.Row.blank_row 1)
showable_blank = record { some = omega arith; not_too_wide = omega arith; cursor_inside = omega arith }

pub showable_after : (columns : ℕ → Columns) (k : GlassCall) (r : Row) → outside k (width_of r) ≡ false → Showable r → Showable (apply columns k r)
showable_after columns (place k) r e s = let h = leb-false (width_of r) k e in record { some = s.some; not_too_wide = s.not_too_wide; cursor_inside = omega arith }
showable_after columns (pen p) r e s = record { some = s.some; not_too_wide = s.not_too_wide; cursor_inside = s.cursor_inside }
showable_after columns (text cs) r e s =
    let w = text_width columns cs r in record { some = omega arith; not_too_wide = omega arith; cursor_inside = inside_text columns cs r s.cursor_inside }
showable_after columns clear r e s = let w = cleared_width r in record { some = omega arith; not_too_wide = omega arith; cursor_inside = omega arith }
showable_after columns (reshape v) r e s =
    let n = length-replicate v blank_cell in
    let p = or_parts _ _ e in
    let a = ltb-false v 1 p.0 in
    let b = ltb-false widest v p.1 in
    record { some = omega arith; not_too_wide = omega arith; cursor_inside = omega arith }
