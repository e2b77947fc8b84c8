use Rattle.std.proofs.Common.{◌≡◌, ℕ, ◌-◌, take, replicate, sym, ap, ◌∙◌, arith}
use Rattle.std.proofs.lemmas.List.{length-replicate}
use Rattle.text.specs.Utf8.{characters}
use Rattle.console.proofs.Drafts.{front_is_written, jumps_as_typed}
use Rattle.console.proofs.jump_by.Goals as goal

pub returns : goal.returns
returns c =
    let bytes = c.args.bytes.now in
    let n = c.in_ok-count.count in
    let accepted = c.in_ok-count.ensures in
    let whole : n - 0 ≡ n = omega arith in
    let front : take n c.decode.new.out ≡ characters bytes = ap (take n) accepted.written ∙ front_is_written (replicate 256 0) (characters bytes) n accepted.refused_exactly.1 (omega (arith, length-replicate {A = ℕ} 256 0)) in
    record {
      value = c.goto.ensures.value ∙ rw (whole, front) (sym (jumps_as_typed bytes c.args.lines n (sym accepted.value) c.if-count-gt-MOST_CHARACTERS.false));
    }
