use Rattle.std.proofs.Common.{◌≡◌, true, [], ◌∷◌, sym, refl, arith, rules}
use lib.Utf8.{scalar}
use Rattle.std.proofs.lemmas.Str.{encode_ascii}
use Rattle.text.proofs.Sequences.{two_bytes, three_bytes, four_bytes}
use Rattle.text.proofs.Encodings.{encoding_written}
use Rattle.text.proofs.utf8.encode.Goals as goal

pub returns-in-0-to-127 : goal.returns-in-0-to-127
returns-in-0-to-127 c =
    let s : scalar c.args.code ≡ true = search rules in
    let w = encoding_written c.args.code (c.args.code ∷ []) c.args.out.now s (sym (encode_ascii c.args.code (omega arith))) (omega arith) in
    record { value = w.value; is_sequence = w.is_sequence; written = w.written; unchanged_if_refused = search rules }

pub returns-in-128-to-2047 : goal.returns-in-128-to-2047
returns-in-128-to-2047 c =
    let s : scalar c.args.code ≡ true = search rules in
    let is = two_bytes c.args.code _ c.following.result (omega arith) (omega arith) refl c.following.ensures.value in
    let w = encoding_written c.args.code _ c.args.out.now s is (omega arith) in
    record { value = w.value; is_sequence = w.is_sequence; written = w.written; unchanged_if_refused = search rules }

pub returns-in-2048-to-65535 : goal.returns-in-2048-to-65535
returns-in-2048-to-65535 c =
    let s : scalar c.args.code ≡ true = search rules in
    let is = three_bytes c.args.code _ c.following-in-2048-to-65535.result c.following-in-2048-to-65535-2.result (omega arith) (omega arith) refl c.following-in-2048-to-65535.ensures.value c.following-in-2048-to-65535-2.ensures.value in
    let w = encoding_written c.args.code _ c.args.out.now s is (omega arith) in
    record { value = w.value; is_sequence = w.is_sequence; written = w.written; unchanged_if_refused = search rules }

pub returns-in_default : goal.returns-in_default
returns-in_default c =
    let s : scalar c.args.code ≡ true = search rules in
    let is = four_bytes c.args.code _ c.following-in_default.result c.following-in_default-2.result c.following-in_default-3.result (omega arith) refl c.following-in_default.ensures.value c.following-in_default-2.ensures.value c.following-in_default-3.ensures.value in
    let w = encoding_written c.args.code _ c.args.out.now s is (omega arith) in
    record { value = w.value; is_sequence = w.is_sequence; written = w.written; unchanged_if_refused = search rules }
