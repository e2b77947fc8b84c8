-- What saving, loading and writing come to together.
use Rattle.std.specs.Prelude.{◌≡◌, ℕ, ◌<◌, ◌≤◌, true, List, [], ◌∷◌, ◌++◌, length, ◌≢◌}
use Rattle.std.proofs.Math.Utf8.{scalars}
use Rattle.std.specs.List.{AllByRecursion}
use Rattle.draft.specs.Line.{capacity}
use Rattle.history.specs.Limits.{most_kept, longest_written}
use Rattle.history.specs.Lines.{lines, without_return}
use Rattle.history.specs.Readable.{loaded, readable, readable_lines, last_of}
use Rattle.history.specs.Spelling.{spell}
use Rattle.history.specs.Session.{remembered_texts}
use Rattle.history.specs.Writing.{ended, written, nothing_to_add}

-- no byte below 20, and not 7F
abbrev pub Clean : ℕ → Type 0
Clean b = (0x20 ≤ b) × (b ≢ 0x7F)

-- at most 256 scalar values
abbrev pub DraftText : List ℕ → Type 0
DraftText text = (scalars text ≡ true) × (length text ≤ capacity)

pub record SavingLaws : Type 0 where
  -- loading a saved text gives it back
  pub gives_back : (text : List ℕ) → scalars text ≡ true → loaded (spell text) ≡ text
  -- a saved line holds no control character
  pub is_clean : (text : List ℕ) → scalars text ≡ true → AllByRecursion Clean (spell text)
  -- a saved draft is readable
  pub is_readable : (text : List ℕ) → DraftText text → readable (spell text) ≡ true
  -- and, if it is not empty, is one line
  pub is_one_line : (text : List ℕ) → DraftText text → 0 < length text → lines (ended (spell text)) ≡ spell text ∷ []
  -- two texts are saved alike exactly where they are equal
  pub saved_alike : (text other : List ℕ) → scalars text ≡ true → scalars other ≡ true → (spell text ≡ spell other → text ≡ other) × (text ≡ other → spell text ≡ spell other)

pub record WritingLaws : Type 0 where
  -- a buffer of 31,775 bytes is never too short, and what is written is never too long to be read
  pub never_longer : (text history : List ℕ) → DraftText text → length (written text history) ≤ longest_written
  -- the text that was written is the last that the next session remembers
  pub remembered_last : (text history : List ℕ) → DraftText text → 0 < length text → (others : List (List ℕ)) × (remembered_texts (written text history) ≡ others ++ text ∷ [])
  -- a draft that was written is not added again
  pub not_twice : (text history : List ℕ) → DraftText text → nothing_to_add text (written text history) ≡ true
  -- What is written is read again: the lines that were kept, and the new one. Only a line that ends in 0D is read without it.
  pub read_again : (text history : List ℕ) → DraftText text → 0 < length text → AllByRecursion (λ l. without_return l ≡ l) (last_of most_kept (readable_lines history))
      → readable_lines (written text history) ≡ last_of most_kept (readable_lines history) ++ spell text ∷ []
