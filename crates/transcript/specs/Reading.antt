-- How the words of a script are read.
use Rattle.std.specs.Prelude.{◌≡◌, ℕ, ◌<◌, List, [], ◌∷◌, ◌++◌, length, Result, Ok, codes}
use Rattle.std.specs.Char.{is_whitespace, is_not_whitespace}
use Rattle.std.specs.Str.{NoCharPasses, EmptyOrStartsWithPassing}
use Rattle.std.specs.Str.Parse.{ParsesChar, ParsesUnsigned}
use Rattle.transcript.specs.declared.fault.CallError.{CallError}
use Rattle.transcript.specs.declared.fault.CallError.TheVariants.{Fault, Host}
use Rattle.transcript.specs.declared.fault.Fault.TheVariants.{NotBytes}

-- `Space`, or `U+` and a number in hexadecimal, or one character: r is the code, and an error where the word is none of them
pub record IsTypedCode {E : Type 0} (word : List ℕ) (r : Result ℕ E) : Type 0 where
  pub space : word ≡ codes "Space" → r ≡ Ok 0x20
  pub code : (digits : List ℕ) → word ≡ codes "U+" ++ digits → ParsesUnsigned 32 16 digits r
  pub character : ¬ (word ≡ codes "Space") → ((digits : List ℕ) → ¬ (word ≡ codes "U+" ++ digits)) → ParsesChar word r

-- a word of two characters that reads as a number in hexadecimal (where a plus may stand first, as in all numbers that are read)
pub record SpellsByte (word : List ℕ) (b : ℕ) : Type 0 where
  pub two : length word ≡ 2
  pub reads : ParsesUnsigned {E = Unit {0}} 8 16 word (Ok b)

-- white space, a word, and what comes after it
pub record BeginsWith (text word rest : List ℕ) : Type 0 where
  pub gap : List ℕ
  pub whole : text ≡ gap ++ (word ++ rest)
  pub some : 0 < length word
  pub blank : NoCharPasses is_not_whitespace gap
  pub solid : NoCharPasses is_whitespace word
  pub more : List ℕ
  pub parted : EmptyOrStartsWithPassing is_whitespace rest more

-- the first words spell the bytes, and of what comes after them P holds
abbrev pub SpellsThen : (List ℕ → Type 0) → (bytes text : List ℕ) → Type 0
SpellsThen P [] text = P text
SpellsThen P (b ∷ bs) text = (word rest : List ℕ) × BeginsWith text word rest × SpellsByte word b × SpellsThen P bs rest

-- no word is left
abbrev pub IsBlank : List ℕ → Type 0
IsBlank text = NoCharPasses is_not_whitespace text

-- the first word spells no byte
abbrev pub BeginsWithNoByte : List ℕ → Type 0
BeginsWithNoByte text = (word rest : List ℕ) × BeginsWith text word rest × ((b : ℕ) → ¬ (SpellsByte word b))

-- the words of a text spell bytes, or some word spells none
abbrev pub IsNoBytes : List ℕ → CallError → Type 0
IsNoBytes text (Fault f) = (f ≡ NotBytes) × ((before : List ℕ) × SpellsThen BeginsWithNoByte before text)
IsNoBytes text (Host e) = Unit {0}
