-- The drawing by hand.
use Rattle.std.specs.Prelude.{List, [], ◌∷◌}
use Rattle.glass.specs.declared.PenChange.TheVariants.{Plain, Prompt, ReverseOn}
use Rattle.glass.specs.Calls.{GlassCall, place, pen, text, clear}

-- "Seat: ", an e with an acute accent, a wide character and a 7; then <09> reversed, and the rest of the row is cleared
abbrev pub by_hand : List GlassCall
by_hand =
    pen Prompt ∷ place 0
    ∷ text (0x53 ∷ 0x65 ∷ 0x61 ∷ 0x74 ∷ 0x3A ∷ 0x20 ∷ [])
    ∷ text (0x65 ∷ 0x301 ∷ 0x5EA7 ∷ 0x37 ∷ [])
    ∷ pen ReverseOn
    ∷ text (0x3C ∷ 0x30 ∷ 0x39 ∷ 0x3E ∷ [])
    ∷ pen Plain ∷ clear ∷ place 9 ∷ []
