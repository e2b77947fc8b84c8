use Rattle.std.proofs.Common.{◌≡◌, length, get_or, take, ap, ◌∙◌, arith}
use lib.Utf8.{encode, encodes}
use borrow.Rule.Slice.PartMut.{put_mid}
use Rattle.std.proofs.lemmas.List.{length-append}
use Rattle.recorder.proofs.Encodes.{encodes_more, encodes_room, next_written, scalars_after}
use Rattle.recorder.proofs.recorder.writing.write_text.Goals as goal

pub slice_bounds-copy_from_slice-end : goal.slice_bounds-copy_from_slice-end
slice_bounds-copy_from_slice-end c =
    let q : c.as_bytes-part.result.now ≡ encode (get_or c.args.characters.now c.loop-c.c-index 0) = c.as_bytes-part.ensures.value ∙ c.encode_utf8.ensures.value ∙ ap encode c.in-Some.ensures.value.1 in
    let n = ap length q in
    let r = encodes_room c.args.characters.now c.loop-c.c-index c.loop-c-test.true in
    omega arith

pub loop-c-preserved : goal.loop-c-preserved
loop-c-preserved c =
    let cs = c.args.characters.now in
    let i = c.loop-c.c-index in
    let v = c.loop-c.invariant in
    let q : c.as_bytes-part.result.now ≡ encode (get_or cs i 0) = c.as_bytes-part.ensures.value ∙ c.encode_utf8.ensures.value ∙ ap encode c.in-Some.ensures.value.1 in
    let n = ap length q in
    let m = ap length (encodes_more cs i c.loop-c-test.true) ∙ length-append (encodes (take i cs)) (encode (get_or cs i 0)) in
    let r = encodes_room cs i c.loop-c-test.true in
    record {
      so_far = ap (put_mid c.loop-c.end _ c.loop-c.bytes) c.copy_from_slice.ensures.after ∙ next_written c.args.bytes.now c.loop-c.bytes c.as_bytes-part.result.now cs c.args.at c.loop-c.end _ i c.loop-c-test.true (omega arith) v.after v.so_far q (omega arith);
      after = omega arith;
      scalar = scalars_after cs i c.loop-c-test.true v.scalar;
    }
