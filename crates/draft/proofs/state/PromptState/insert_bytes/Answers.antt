use Rattle.std.proofs.Common.{◌≡◌, ℕ, ◌-◌, take, replicate, Some, ap, ◌∙◌, arith}
use Rattle.std.proofs.lemmas.Grind.{common_steps}
use Rattle.text.specs.Utf8.{characters}
use Rattle.draft.specs.Draft.{draft_of}
use Rattle.draft.proofs.Pasting.{front_is_written, pasted_as_inserted}
use Rattle.draft.proofs.state.PromptState.insert_bytes.Goals as goal

pub returns : goal.returns
returns c =
    let d = draft_of c.args.self.now in
    let bytes = c.args.bytes.now in
    let n = c.in_ok-count.count in
    let read = c.in_ok-count.ensures in
    let got : c.get.result ≡ Some c.in_ok-text.text = grind (arith, common_steps, c.in_ok-text.ensures.value) in
    let part = rw got at c.get.ensures.lookup in
    let all : n - 0 ≡ n = omega arith in
    let front : c.in_ok-text.text.now ≡ characters bytes =
    part.0.2 ∙ ap (λ (k : ℕ). take k c.decode.new.out) all ∙ ap (take n) read.written ∙ front_is_written (replicate 256 0) (characters bytes) n read.refused_exactly.1 (omega (arith, part.0.1)) in
    let same = pasted_as_inserted bytes d n read.value read.refused_exactly.0 in
    let done = c.insert_str.ensures in
    record {
      answer_is = rw (same, ← front) done.answer_is;
      after = rw (← front) done.after;
      unchanged_if_refused = done.unchanged_if_refused;
    }
