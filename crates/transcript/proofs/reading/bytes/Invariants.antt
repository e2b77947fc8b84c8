use Rattle.std.proofs.Common.{◌≡◌}
use Rattle.std.specs.Str.Iter.{split_whitespace_rest}
use Rattle.transcript.specs.Reading.{SpellsThen}
use Rattle.transcript.proofs.reading.bytes.Given as goal

abbrev pub invariant-loop-word : goal.invariant-loop-word
invariant-loop-word l =
    (goal.iterator-loop-word).can_next l.word-iterator
    × (goal.iterator-loop-word).is_finite l.word-iterator
    × SpellsThen (λ t. t ≡ split_whitespace_rest l.word-iterator) l.bytes.items l.fn.words
