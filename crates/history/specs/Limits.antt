-- The limits of history.
use Rattle.std.specs.Prelude.{ℕ}

-- the bytes of history that are read at most
abbrev pub longest_history : ℕ
longest_history = 65536

-- the bytes that a readable line has at most
abbrev pub longest_line : ℕ
longest_line = 1024

-- the bytes that a draft's spelling has at most: four for each of its characters
abbrev pub longest_spelling : ℕ
longest_spelling = 1024

-- the lines of history that become drafts at most
abbrev pub most_remembered : ℕ
most_remembered = 31

-- the drafts of a session: those, and a new one
abbrev pub most_drafts : ℕ
most_drafts = 32

-- the lines of history that are kept in writing at most
abbrev pub most_kept : ℕ
most_kept = 30

-- the bytes that are written at most: each line that is kept with its 0A, and the new one
abbrev pub longest_written : ℕ
longest_written = 31775
