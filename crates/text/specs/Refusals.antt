-- Each refusal's number, layer, place and words.
use Rattle.std.specs.Prelude.{ℕ, List, Some, None, codes, Option}
use Rattle.text.specs.declared.refusal.Layer.{Layer}
use Rattle.text.specs.declared.refusal.Layer.TheVariants.{Prompt, Bytes, Glass, Draft, Jump}
use Rattle.text.specs.declared.refusal.Refusal.{Refusal}
use Rattle.text.specs.declared.refusal.Refusal.TheVariants.{BadLabel, HistoryTooLong, OutsideGlass, LowSpare, NotScalar, IllFormed, DraftFull, BufferTooShort, ListingTooLong, EmptyNumber, InvalidDigit, PosOverflow, NegOverflow, NoLines}

abbrev pub number_of : Refusal → ℕ
number_of BadLabel = 11
number_of HistoryTooLong = 12
number_of OutsideGlass = 13
number_of LowSpare = 14
number_of NotScalar = 15
number_of (IllFormed place) = 16
number_of DraftFull = 17
number_of BufferTooShort = 18
number_of ListingTooLong = 19
number_of EmptyNumber = 20
number_of InvalidDigit = 21
number_of PosOverflow = 22
number_of NegOverflow = 23
number_of NoLines = 24

abbrev pub layer_of : Refusal → Layer
layer_of BadLabel = Prompt
layer_of HistoryTooLong = Bytes
layer_of OutsideGlass = Glass
layer_of LowSpare = Glass
layer_of NotScalar = Draft
layer_of (IllFormed place) = Bytes
layer_of DraftFull = Draft
layer_of BufferTooShort = Bytes
layer_of ListingTooLong = Jump
layer_of EmptyNumber = Jump
layer_of InvalidDigit = Jump
layer_of PosOverflow = Jump
layer_of NegOverflow = Jump
layer_of NoLines = Jump

-- Only ill-formed bytes have a place: the length of the longest front of them that is well formed.
abbrev pub place_of : Refusal → Option ℕ
place_of BadLabel = None
place_of HistoryTooLong = None
place_of OutsideGlass = None
place_of LowSpare = None
place_of NotScalar = None
place_of (IllFormed place) = Some place
place_of DraftFull = None
place_of BufferTooShort = None
place_of ListingTooLong = None
place_of EmptyNumber = None
place_of InvalidDigit = None
place_of PosOverflow = None
place_of NegOverflow = None
place_of NoLines = None

abbrev pub words_of : Refusal → List ℕ
words_of BadLabel = codes "the label is not 1 to 32 characters of 20 to 7E"
words_of HistoryTooLong = codes "more than 65536 bytes of history"
words_of OutsideGlass = codes "a width or a column outside the glass"
words_of LowSpare = codes "the glass has too little to spare"
words_of NotScalar = codes "not a Unicode scalar value"
words_of (IllFormed place) = codes "not well-formed UTF-8"
words_of DraftFull = codes "the draft would pass 256 characters"
words_of BufferTooShort = codes "the buffer is too short"
words_of ListingTooLong = codes "the listing has more than 4294967296 lines"
words_of EmptyNumber = codes "cannot parse integer from empty string"
words_of InvalidDigit = codes "invalid digit found in string"
words_of PosOverflow = codes "number too large to fit in target type"
words_of NegOverflow = codes "number too small to fit in target type"
words_of NoLines = codes "the listing has no lines"

abbrev pub name_of : Layer → List ℕ
name_of Prompt = codes "prompt"
name_of Bytes = codes "bytes"
name_of Glass = codes "glass"
name_of Draft = codes "draft"
name_of Jump = codes "jump"
