-- How a text is spelled as a line of history: a backslash as two, a control character by its code, all else as UTF-8.
use Rattle.std.specs.Prelude.{ℕ, ◌/◌, ◌%◌, Bool, cond, ◌||◌, List, [], ◌∷◌, ◌==◌, nat_lt}
use Rattle.std.proofs.Math.Utf8.{encode}
use Rattle.std.specs.List.{flat_map}
use Rattle.text.specs.Hex.{hex_digit}
use Rattle.history.specs.Loading.{backslash, small_x}

-- 00–1F and 7F
abbrev pub is_control : ℕ → Bool
is_control c = nat_lt c 0x20 || c == 0x7F

abbrev pub spelled_character : ℕ → List ℕ
spelled_character c =
    cond (c == backslash) (backslash ∷ backslash ∷ [])
    (cond (is_control c) (backslash ∷ small_x ∷ hex_digit (c / 16) ∷ hex_digit (c % 16) ∷ [])
    (encode c))

unfoldable pub spell : List ℕ → List ℕ
spell text = flat_map spelled_character text
