-- What is left of a prompt that was finished.
use Rattle.std.specs.Prelude.{ℕ, List}
use Rattle.draft.specs.Draft.{draft_of}
use Rattle.prompt.specs.declared.finished.FinishedText.{FinishedText}

abbrev pub finished_text : FinishedText → List ℕ
finished_text f = (draft_of f.draft).line.text
