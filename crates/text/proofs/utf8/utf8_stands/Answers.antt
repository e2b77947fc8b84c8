use Rattle.std.proofs.lemmas.Str.{chars-encodes}
use Rattle.text.proofs.Sequences.{sequence_is_encoding, encoding_is_sequence, one_beginning}
use Rattle.text.proofs.Spellings.{spelled_is_encoding, encoding_is_spelled, one_spelling, characters_spelled, well_formed_decides, front_length_is, one_longest_front}
use Rattle.text.proofs.utf8.utf8_stands.Goals as goal

pub returns : goal.returns
returns c =
    record {
      laws = record {
        sequence_is_encoding = λ _ _ row. sequence_is_encoding row;
        encoding_is_sequence = encoding_is_sequence;
        one_beginning = one_beginning;
        one_spelling = λ _ _ spelled. one_spelling spelled;
        scalar_values = λ _ w. (spelled_is_encoding (characters_spelled w)).0;
        round_trip = λ values s. (encoding_is_spelled values s, chars-encodes values s);
        test = well_formed_decides;
        place = front_length_is;
        one_place = one_longest_front;
      };
    }
