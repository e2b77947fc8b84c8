-- What a label in memory says.
use Rattle.std.specs.Prelude.{ℕ, List, take}
use Rattle.font.specs.declared.label.Label.{Label}

abbrev pub label_text : Label → List ℕ
label_text l = take l.len l.chars
