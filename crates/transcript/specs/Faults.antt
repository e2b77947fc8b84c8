-- What a transcript says of a call that comes to nothing.
use Rattle.std.specs.Prelude.{ℕ, List, [], ◌++◌, Some, None, codes, Option, ⊤}
use Rattle.std.specs.Fmt.{decimal}
use Rattle.text.specs.declared.refusal.Refusal.{Refusal}
use Rattle.text.specs.Refusals.{number_of, layer_of, place_of, words_of, name_of}
use Rattle.transcript.specs.declared.fault.CallError.{CallError}
use Rattle.transcript.specs.declared.fault.CallError.TheVariants.{Fault as InTheScript, Host}
use Rattle.transcript.specs.declared.fault.Fault.{Fault}
use Rattle.transcript.specs.declared.fault.Fault.TheVariants.{NotUnderstood, NotANumberOfLines, NotAWidth, NotBytes, NoSuchKey, Refused}

abbrev pub place_text : Option ℕ → List ℕ
place_text None = []
place_text (Some place) = codes " at " ++ decimal place

-- as `refused 16 (bytes) at 1: not well-formed UTF-8`
abbrev pub refusal_text : Refusal → List ℕ
refusal_text r = codes "refused " ++ (decimal (number_of r) ++ (codes " (" ++ (name_of (layer_of r) ++ (codes ")" ++ (place_text (place_of r) ++ (codes ": " ++ words_of r))))))

abbrev pub fault_text : Fault → List ℕ
fault_text NotUnderstood = codes "not understood"
fault_text NotANumberOfLines = codes "not a number of lines"
fault_text NotAWidth = codes "not a width"
fault_text NotBytes = codes "not bytes in hexadecimal"
fault_text NoSuchKey = codes "no such key"
fault_text (Refused refusal) = refusal_text refusal

-- the host failed: reading, writing or memory
abbrev pub IsHost : CallError → Type 0
IsHost (InTheScript f) = ⊥
IsHost (Host e) = ⊤
