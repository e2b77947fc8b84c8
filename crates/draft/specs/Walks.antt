-- What a walk over words comes to.
use Rattle.std.specs.Prelude.{◌≡◌, ℕ, ◌<◌, ◌≤◌, Bool, true, not, List, length, slice_index}
use Rattle.draft.specs.Words.{word_start, word_end}

-- every character from one place on, up to another, passes the test
abbrev pub AllPass : (ℕ → Bool) → List ℕ → (from to : ℕ) → Type 0
AllPass test text from to = (k : ℕ) → from ≤ k → k < to → test (slice_index text k) ≡ true

-- on from a place: separators up to the turn, and then other characters
pub record WalkOn (separates : ℕ → Bool) (text : List ℕ) (from turn to : ℕ) : Type 0 where
  pub goes_on : (from ≤ turn) × (turn ≤ to) × (to ≤ length text)
  pub separators_first : AllPass separates text from turn
  pub then_a_word : AllPass (λ c. not (separates c)) text turn to

-- back from a place: separators down to the turn, and then other characters
pub record WalkBack (separates : ℕ → Bool) (text : List ℕ) (from turn to : ℕ) : Type 0 where
  pub goes_back : (to ≤ turn) × (turn ≤ from)
  pub separators_first : AllPass separates text turn from
  pub then_a_word : AllPass (λ c. not (separates c)) text to turn

-- the word end is where such a walk comes to, and none goes further
abbrev pub WordEndIsFurthest : Type 0
WordEndIsFurthest =
    (separates : ℕ → Bool) (text : List ℕ) (place : ℕ) → place ≤ length text
    → ((turn : ℕ) × WalkOn separates text place turn (word_end separates text place))
    × ((turn to : ℕ) → WalkOn separates text place turn to → to ≤ word_end separates text place)

-- the word start is where such a walk comes to, and none goes further
abbrev pub WordStartIsFurthest : Type 0
WordStartIsFurthest =
    (separates : ℕ → Bool) (text : List ℕ) (place : ℕ) → place ≤ length text
    → ((turn : ℕ) × WalkBack separates text place turn (word_start separates text place))
    × ((turn to : ℕ) → WalkBack separates text place turn to → word_start separates text place ≤ to)
