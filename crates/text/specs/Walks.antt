-- Walks over a text, by a test of its characters.
use Rattle.std.specs.Prelude.{◌≡◌, ℕ, zero, suc, ◌+◌, Bool, cond, List, drop, slice_index}
use Rattle.std.specs.List.{prefix_len}

-- What a closure answers of each character is what the test says.
abbrev pub Tests : (ℕ → Bool → Type 0) → (ℕ → Bool) → Type 0
Tests answers test = (c : ℕ) (b : Bool) → answers c b → b ≡ test c

-- from a place on, past each character that passes the test
abbrev pub on_past : (ℕ → Bool) → List ℕ → (place : ℕ) → ℕ
on_past test text place = place + prefix_len test (drop place text)

-- from a place back, past each character before it that passes the test
abbrev pub back_past : (ℕ → Bool) → List ℕ → (place : ℕ) → ℕ
back_past test text zero = zero
back_past test text (suc place) = cond (test (slice_index text place)) (back_past test text place) (suc place)
