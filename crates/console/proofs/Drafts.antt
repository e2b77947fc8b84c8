-- A text that was decoded into a buffer with room for it stands at the buffer's front.
use Rattle.std.proofs.Common.{◌≡◌, ℕ, ◌≤◌, List, length, take, drop, Ok, sym, arith}
use Rattle.std.proofs.lemmas.List.{take_all, take_at}
use Rattle.std.proofs.lemmas.Bool.{le-ltb}
use Rattle.text.specs.Utf8.{characters, counted, overwritten}
use Rattle.jump.specs.Goto.{goes_to}
use Rattle.console.specs.Typed.{typed_jump, most_characters}

pub front_is_written : (out xs : List ℕ) (n : ℕ) → n ≡ length xs → n ≤ length out → take n (overwritten out xs) ≡ xs
front_is_written out xs n e h =
    rw (take_all (length out) xs (omega arith)) (take_at xs (drop (length xs) out) n (sym e))

pub jumps_as_typed : (bytes : List ℕ) (lines n : ℕ) → counted bytes ≡ Ok n → n ≤ most_characters → typed_jump bytes lines ≡ goes_to (characters bytes) lines
jumps_as_typed bytes lines n e h = rw (e, le-ltb most_characters n h)
