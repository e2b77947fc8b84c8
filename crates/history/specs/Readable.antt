-- Which lines of history are readable.
use Rattle.std.specs.Prelude.{ℕ, ◌-◌, Bool, ◌&&◌, List, length, drop, filter, nat_le}
use Rattle.text.specs.Utf8.{characters, well_formed}
use Rattle.draft.specs.Line.{capacity}
use Rattle.history.specs.Limits.{longest_line}
use Rattle.history.specs.Lines.{lines}
use Rattle.history.specs.Loading.{load}

-- the text that a line loads to
abbrev pub loaded : List ℕ → List ℕ
loaded line = load (characters line)

-- it is well formed, and loads to no more than a draft holds
abbrev pub loadable : List ℕ → Bool
loadable line = well_formed line && nat_le (length (loaded line)) capacity

-- at most 1,024 bytes, well formed, and at most 256 characters
unfoldable pub readable : List ℕ → Bool
readable line = nat_le (length line) longest_line && loadable line

unfoldable pub readable_lines : List ℕ → List (List ℕ)
readable_lines bytes = filter readable (lines bytes)

-- at most n elements, the last ones
abbrev pub last_of : {X : Type 0} → ℕ → List X → List X
last_of n xs = drop (length xs - n) xs
