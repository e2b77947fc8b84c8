-- What opening and closing a gap does to a table of which the first `len` elements are in use.
use Rattle.std.specs.Prelude.{ℕ, ◌+◌, ◌-◌, List, ◌++◌, take, drop}

-- What stood from `at` to `len` stands `count` further on; what lies before the gap's end and past the moved part is as it was.
abbrev pub gap_opened : {X : Type 0} → List X → (len at count : ℕ) → List X
gap_opened xs len at count = take (at + count) xs ++ (take (len - at) (drop at xs) ++ drop (len + count) xs)

-- What stood from `at + count` to `len` stands at `at`; what lies before it and past the moved part is as it was.
abbrev pub gap_closed : {X : Type 0} → List X → (len at count : ℕ) → List X
gap_closed xs len at count =
    take at xs ++ (take (len - (at + count)) (drop (at + count) xs) ++ drop (len - count) xs)
