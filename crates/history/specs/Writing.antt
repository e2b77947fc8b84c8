-- History with a new line: the last readable lines as they stood, and the draft's spelling.
use Rattle.std.specs.Prelude.{ℕ, Bool, false, cond, ◌||◌, List, [], ◌∷◌, ◌++◌, length, Some, None, Ok, Err, Option, Result, ◌==◌, nat_le}
use Rattle.std.specs.List.{flat_map}
use Rattle.std.specs.Str.{bytes_eq}
use Rattle.text.specs.declared.refusal.Refusal.{Refusal}
use Rattle.text.specs.declared.refusal.Refusal.TheVariants.{HistoryTooLong, BufferTooShort}
use Rattle.text.specs.Utf8.{overwritten}
use Rattle.history.specs.Limits.{longest_history, most_kept}
use Rattle.history.specs.Lines.{newline}
use Rattle.history.specs.Readable.{readable_lines, last_of}
use Rattle.history.specs.Spelling.{spell}

abbrev pub ended : List ℕ → List ℕ
ended line = line ++ newline ∷ []

abbrev pub ended_lines : List (List ℕ) → List ℕ
ended_lines lines = flat_map ended lines

-- the bytes that history has then
abbrev pub written : (text history : List ℕ) → List ℕ
written text history = ended_lines (last_of most_kept (readable_lines history) ++ spell text ∷ [])

-- the line is the last of these, byte for byte
abbrev pub is_last : (line : List ℕ) → List (List ℕ) → Bool
is_last line [] = false
is_last line (l ∷ []) = bytes_eq line l
is_last line (l ∷ m ∷ ls) = is_last line (m ∷ ls)

-- the draft is empty, or spelled as the last readable line is
abbrev pub nothing_to_add : (text history : List ℕ) → Bool
nothing_to_add text history = length text == 0 || is_last (spell text) (readable_lines history)

-- what writing into a buffer of so many bytes answers: the number of bytes, or none where there is nothing to add
abbrev pub write_answer : (text history : List ℕ) (room : ℕ) → Result (Option ℕ) Refusal
write_answer text history room =
    cond (nat_le (length history) longest_history)
    (cond (nothing_to_add text history) (Ok None)
    (cond (nat_le (length (written text history)) room) (Ok (Some (length (written text history)))) (Err BufferTooShort)))
    (Err HistoryTooLong)

-- the buffer after that answer: only bytes that were written are others
abbrev pub buffer_after : Result (Option ℕ) Refusal → (bytes out : List ℕ) → List ℕ
buffer_after (Ok (Some count)) bytes out = overwritten out bytes
buffer_after (Ok None) bytes out = out
buffer_after (Err refusal) bytes out = out
