use Rattle.std.proofs.Common.{◌≡◌, ◌+◌, ◌≤◌, ◌++◌, length, take, ap, sym, ◌∙◌, rules, arith}
use lib.Utf8.{encode}
use Rattle.std.proofs.lemmas.List.{length-take-le}
use Rattle.std.proofs.lemmas.Bool.Decides.{nat_tests}
use Rattle.text.proofs.Sequences.{sequence_is_encoding}
use Rattle.history.specs.Spelling.{spelled_character}
use Rattle.history.proofs.Saving.{encoded_count}
use Rattle.history.proofs.spelling.put_character.Goals as goal

pub slice_bounds-bytes-end : goal.slice_bounds-bytes-end
slice_bounds-bytes-end c = omega (arith, (encoded_count c.args.c c.in-Ok.count c.requires.is_scalar c.in-Ok.ensures.value).1, c.encode.array_long)

pub slice_bounds-try_extend_from_slice-end : goal.slice_bounds-try_extend_from_slice-end
slice_bounds-try_extend_from_slice-end c =
    sym (length-take-le c.in-Ok.count c.encode.new.out (omega (arith, (encoded_count c.args.c c.in-Ok.count c.requires.is_scalar c.in-Ok.ensures.value).1, c.encode.array_long)))

pub returns-in-Ok-clause-after : goal.returns-in-Ok-clause-after
returns-in-Ok-clause-after c =
    let out = c.args.out.now.items in
    let piece = take c.in-Ok.count c.encode.new.out in
    let plain : spelled_character c.args.c ≡ encode c.args.c = grind (arith, nat_tests) in
    let is : piece ≡ encode c.args.c = (sequence_is_encoding c.in-Ok.ensures.is_sequence).1 in
    let fits : length out + length piece ≤ 1024 = omega (arith, (encoded_count c.args.c c.in-Ok.count c.requires.is_scalar c.in-Ok.ensures.value), ap length is, c.requires.room) in
    let added : c.try_extend_from_slice.new.self.items ≡ out ++ piece = search rules in
    added ∙ ap (λ l. out ++ l) (is ∙ sym plain)
