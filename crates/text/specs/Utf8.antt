-- Well-formed UTF-8, by Table 3-7 of the Unicode Standard.
use Rattle.std.specs.Prelude.{◌≡◌, ℕ, zero, suc, ◌+◌, ◌-◌, ◌*◌, ◌<◌, ◌≤◌, Bool, true, cond, ◌&&◌, ◌⊎◌, List, [], ◌∷◌, ◌++◌, length, take, drop, Ok, Err, Decides, Result}
use Rattle.std.proofs.Math.Utf8.{scalar, scalars, encode, encodes}
use Rattle.std.specs.Int.{IsInRange}
use Rattle.std.specs.Str.{chars, bytes_eq}
use Rattle.text.specs.declared.refusal.Refusal.{Refusal}
use Rattle.text.specs.declared.refusal.Refusal.TheVariants.{IllFormed, NotScalar}

-- The rows of the table with two, three and four bytes, line by line.
abbrev pub Pair : ℕ → ℕ → Type 0
Pair a b = IsInRange 0xC2 0xDF a × IsInRange 0x80 0xBF b

abbrev pub Triple : ℕ → ℕ → ℕ → Type 0
Triple a b c =
    ((a ≡ 0xE0) × IsInRange 0xA0 0xBF b × IsInRange 0x80 0xBF c)
    ⊎ (IsInRange 0xE1 0xEC a × IsInRange 0x80 0xBF b × IsInRange 0x80 0xBF c)
    ⊎ ((a ≡ 0xED) × IsInRange 0x80 0x9F b × IsInRange 0x80 0xBF c)
    ⊎ (IsInRange 0xEE 0xEF a × IsInRange 0x80 0xBF b × IsInRange 0x80 0xBF c)

abbrev pub Quad : ℕ → ℕ → ℕ → ℕ → Type 0
Quad a b c d =
    ((a ≡ 0xF0) × IsInRange 0x90 0xBF b × IsInRange 0x80 0xBF c × IsInRange 0x80 0xBF d)
    ⊎ (IsInRange 0xF1 0xF3 a × IsInRange 0x80 0xBF b × IsInRange 0x80 0xBF c × IsInRange 0x80 0xBF d)
    ⊎ ((a ≡ 0xF4) × IsInRange 0x80 0x8F b × IsInRange 0x80 0xBF c × IsInRange 0x80 0xBF d)

-- These bytes are one row of the table, and stand for this value: the bits of the first byte after its mark, then six bits of
-- each byte that follows.
pub data Sequence : List ℕ → ℕ → Type 0 where
  single : {a : ℕ} → a ≤ 0x7F → Sequence (a ∷ []) a
  pair : {a b : ℕ} → Pair a b → Sequence (a ∷ b ∷ []) ((a - 0xC0) * 64 + (b - 0x80))
  triple : {a b c : ℕ} → Triple a b c → Sequence (a ∷ b ∷ c ∷ []) ((a - 0xE0) * 4096 + (b - 0x80) * 64 + (c - 0x80))
  quad : {a b c d : ℕ} → Quad a b c d → Sequence (a ∷ b ∷ c ∷ d ∷ []) ((a - 0xF0) * 262144 + (b - 0x80) * 4096 + (c - 0x80) * 64 + (d - 0x80))

-- The bytes are such sequences one after another, and stand for these values.
pub data Spells : List ℕ → List ℕ → Type 0 where
  nothing : Spells [] []
  then : {s bytes values : List ℕ} {c : ℕ} → Sequence s c → Spells bytes values → Spells (s ++ bytes) (c ∷ values)

abbrev pub WellFormed : List ℕ → Type 0
WellFormed bytes = (values : List ℕ) × Spells bytes values

-- The first n bytes are well formed, and no longer front of the bytes is.
pub record LongestFront (bytes : List ℕ) (n : ℕ) : Type 0 where
  pub fits : n ≤ length bytes
  pub front : WellFormed (take n bytes)
  pub longest : (m : ℕ) → n < m → m ≤ length bytes → WellFormed (take m bytes) → ⊥

-- A sequence that stands for `value` begins the bytes, and `rest` comes after it; and: none begins them.
abbrev pub Begins : (bytes : List ℕ) (value : ℕ) (rest : List ℕ) → Type 0
Begins bytes value rest = (s : List ℕ) × Sequence s value × (bytes ≡ s ++ rest)

abbrev pub NoneBegins : List ℕ → Type 0
NoneBegins bytes = (value : ℕ) (rest : List ℕ) → Begins bytes value rest → ⊥

-- The values of well-formed bytes, as a function.
abbrev pub characters : List ℕ → List ℕ
characters bytes = chars bytes

-- Whether bytes are well formed, as a test: their characters are scalar values, and are encoded as these bytes.
unfoldable pub well_formed : List ℕ → Bool
well_formed bytes = scalars (characters bytes) && bytes_eq (encodes (characters bytes)) bytes

-- The length of the longest well-formed front, as a function: the longest of at most n bytes, from the whole down.
abbrev pub front_up_to : ℕ → List ℕ → ℕ
front_up_to zero bytes = 0
front_up_to (suc n) bytes = cond (well_formed (take (suc n) bytes)) (suc n) (front_up_to n bytes)

unfoldable pub front_length : List ℕ → ℕ
front_length bytes = front_up_to (length bytes) bytes

-- What reading bytes through answers: how many characters they spell, or where they stop being well formed.
abbrev pub counted : List ℕ → Result ℕ Refusal
counted bytes = cond (well_formed bytes) (Ok (length (characters bytes))) (Err (IllFormed (front_length bytes)))

-- What the table says of such an answer. Accepted: the bytes spell their characters. Refused: they are not well formed, and the
-- place is the length of their longest front that is.
abbrev pub RefusedExactly : List ℕ → Result ℕ Refusal → Type 0
RefusedExactly bytes (Ok n) = Spells bytes (characters bytes) × (n ≡ length (characters bytes))
RefusedExactly bytes (Err refusal) = (WellFormed bytes → ⊥) × ((place : ℕ) × (refusal ≡ IllFormed place) × LongestFront bytes place)

-- A buffer whose front is overwritten by a list, as far as it fits.
abbrev pub overwritten : {X : Type 0} → (out xs : List X) → List X
overwritten out xs = take (length out) xs ++ drop (length xs) out

-- What writing a code answers: how many bytes its encoding has, or that it is no scalar value.
abbrev pub encoded : ℕ → Result ℕ Refusal
encoded code = cond (scalar code) (Ok (length (encode code))) (Err NotScalar)

-- What holds of these definitions together.
pub record Utf8Laws : Type 0 where
  pub sequence_is_encoding : (s : List ℕ) (c : ℕ) → Sequence s c → (scalar c ≡ true) × (s ≡ encode c)
  pub encoding_is_sequence : (c : ℕ) → scalar c ≡ true → Sequence (encode c) c
  pub one_beginning : (bytes : List ℕ) (c d : ℕ) (rest others : List ℕ) → Begins bytes c rest → Begins bytes d others → (c ≡ d) × (rest ≡ others)
  pub one_spelling : (bytes values : List ℕ) → Spells bytes values → values ≡ characters bytes
  pub scalar_values : (bytes : List ℕ) → WellFormed bytes → scalars (characters bytes) ≡ true
  pub round_trip : (values : List ℕ) → scalars values ≡ true → Spells (encodes values) values × (characters (encodes values) ≡ values)
  pub test : (bytes : List ℕ) → Decides (well_formed bytes) (WellFormed bytes)
  pub place : (bytes : List ℕ) → LongestFront bytes (front_length bytes)
  pub one_place : (bytes : List ℕ) (m n : ℕ) → LongestFront bytes m → LongestFront bytes n → m ≡ n
