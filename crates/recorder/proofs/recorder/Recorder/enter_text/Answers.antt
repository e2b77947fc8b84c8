use Rattle.std.proofs.Common.{◌+◌, ◌-◌, refl, arith}
use Rattle.glass.specs.Calls.{text}
use Rattle.recorder.specs.Log.{record_of}
use Rattle.recorder.proofs.Encodes.{encodes_short}
use Rattle.recorder.proofs.Records.{text_record, text_written}
use Rattle.recorder.proofs.Steps.{entered}
use Rattle.recorder.proofs.recorder.Recorder.enter_text.Goals as goal

pub write_text-end-requires-clause-room : goal.write_text-end-requires-clause-room
write_text-end-requires-clause-room g c = omega (arith, encodes_short c.args.characters.now)

pub overflow_cast-end : goal.overflow_cast-end
overflow_cast-end g c = omega (arith, encodes_short c.args.characters.now)

pub invariant_of-self-2 : goal.invariant_of-self-2
invariant_of-self-2 g c =
    let s = c.args.self.now in
    let cs = c.args.characters.now in
    let f = encodes_short cs in
    let e = c.write_text-end.ensures.end in
    let end = c.write_text-end.result in
    let w = text_written s.bytes.now c.write_text-end.new.bytes c.copy_from_slice.new.self cs c.to_be_bytes.result s.line s.used end (s.used + 3 - s.used) (omega arith) c.write_text-end.ensures.written e (omega arith) c.to_be_bytes.ensures c.copy_from_slice.ensures.after (omega arith) in
    let o = entered s s.width (record_of s.line (text cs)) end _ (text_record s.line s.width cs c.requires.scalar) c.requires.room.0 (omega arith) (omega arith) w in
    let n = o.long in
    record { within = (omega arith, omega arith, omega arith); begun = λ _. omega arith; reads = o.reads; shape = (o.width_is, s.shape.1) }

pub returns : goal.returns
returns g c =
    let s = c.args.self.now in
    let cs = c.args.characters.now in
    let f = encodes_short cs in
    let e = c.write_text-end.ensures.end in
    let end = c.write_text-end.result in
    let w = text_written s.bytes.now c.write_text-end.new.bytes c.copy_from_slice.new.self cs c.to_be_bytes.result s.line s.used end (s.used + 3 - s.used) (omega arith) c.write_text-end.ensures.written e (omega arith) c.to_be_bytes.ensures c.copy_from_slice.ensures.after (omega arith) in
    let o = entered s s.width (record_of s.line (text cs)) end _ (text_record s.line s.width cs c.requires.scalar) c.requires.room.0 (omega arith) (omega arith) w in
    record { grown = record { longer = o.longer; uses_more = omega arith; rest_kept = o.rest_kept; same_limit = refl; same_line = refl; same_buffer = refl } }
