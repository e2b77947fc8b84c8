-- Walks over words. Which characters separate words is told by a test.
use Rattle.std.specs.Prelude.{ℕ, Bool, not, List}
use Rattle.text.specs.Walks.{on_past, back_past}

-- on past separators, and then past other characters
abbrev pub word_end : (separates : ℕ → Bool) → List ℕ → (place : ℕ) → ℕ
word_end separates text place = on_past (λ c. not (separates c)) text (on_past separates text place)

-- back past separators, and then past other characters
abbrev pub word_start : (separates : ℕ → Bool) → List ℕ → (place : ℕ) → ℕ
word_start separates text place = back_past (λ c. not (separates c)) text (back_past separates text place)
