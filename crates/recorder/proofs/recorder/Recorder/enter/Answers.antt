use Rattle.std.proofs.Common.{◌+◌, ◌-◌, length, refl, arith}
use Rattle.recorder.proofs.Writes.{put_written}
use Rattle.recorder.proofs.Steps.{entered}
use Rattle.recorder.proofs.recorder.Recorder.enter.Goals as goal

pub invariant_of-self : goal.invariant_of-self
invariant_of-self g c =
    let s = c.args.self.now in
    let p = c.args.part.now in
    let o = entered s c.args.width p (s.used + length p) _ c.requires.call c.requires.room.0 refl c.requires.room.1 (put_written s.bytes.now c.copy_from_slice.new.self p s.used (s.used + length p - s.used) c.copy_from_slice.ensures.after (omega arith)) in
    let n = o.long in
    record { within = (omega arith, omega arith, omega arith); begun = λ _. omega arith; reads = o.reads; shape = (o.width_is, omega arith) }

pub returns : goal.returns
returns g c =
    let s = c.args.self.now in
    let p = c.args.part.now in
    let o = entered s c.args.width p (s.used + length p) _ c.requires.call c.requires.room.0 refl c.requires.room.1 (put_written s.bytes.now c.copy_from_slice.new.self p s.used (s.used + length p - s.used) c.copy_from_slice.ensures.after (omega arith)) in
    record { grown = record { longer = o.longer; uses_more = refl; rest_kept = o.rest_kept; same_limit = refl; same_line = refl; same_buffer = refl } }
