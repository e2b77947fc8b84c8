use Rattle.std.proofs.Common.{◌≡◌, ◌+◌, ◌≤◌, false, length, ap, ◌∙◌, arith}
use Rattle.draft.specs.Draft.{draft_of}
use Rattle.history.specs.Writing.{nothing_to_add, written}
use Rattle.history.proofs.Rewriting.{written_size, written_over, something_to_add, nothing_if_empty, nothing_if_last, answer_if_nothing, answer_if_short, answer_if_written}
use Rattle.history.proofs.writing.write.Goals as goal
use Rattle.history.proofs.writing.write.Goals.{After-ended_length}

some_to_add : (c : After-ended_length) → nothing_to_add (draft_of c.args.draft.now).line.text c.args.history.now ≡ false
some_to_add c =
    something_to_add (draft_of c.args.draft.now).line.text c.as_slice.result.now _ c.args.history.now c.last_lines-kept.result.now c.last_lines-kept.ensures.value
    c.as_slice.ensures.value c.if-is_empty.ensures (c.as_slice-line.ensures.value ∙ c.spell-spelling.ensures.value) c.if-is_last.ensures.value

size_is : (c : After-ended_length) → c.ended_length.result + length c.as_slice-line.result.now + 1 ≡ length (written (draft_of c.args.draft.now).line.text c.args.history.now)
size_is c =
    omega (arith, written_size (draft_of c.args.draft.now).line.text c.args.history.now c.last_lines-kept.result.now c.last_lines-kept.ensures.value, c.ended_length.ensures.value, ap length (c.as_slice-line.ensures.value ∙ c.spell-spelling.ensures.value))

pub returns-then-is_empty-clause-answer_is : goal.returns-then-is_empty-clause-answer_is
returns-then-is_empty-clause-answer_is c =
    let text = (draft_of c.args.draft.now).line.text in
    answer_if_nothing text c.args.history.now (length c.args.out.now) c.if-history-gt-LONGEST_HISTORY.false (nothing_if_empty text c.as_slice.result.now c.args.history.now c.as_slice.ensures.value c.if-is_empty.ensures)

pub returns-then-is_last-clause-answer_is : goal.returns-then-is_last-clause-answer_is
returns-then-is_last-clause-answer_is c =
    let text = (draft_of c.args.draft.now).line.text in
    answer_if_nothing text c.args.history.now (length c.args.out.now) c.if-history-gt-LONGEST_HISTORY.false
    (nothing_if_last text _ c.args.history.now c.last_lines-kept.result.now c.last_lines-kept.ensures.value (c.as_slice-line.ensures.value ∙ c.spell-spelling.ensures.value) c.if-is_last.ensures.value)

pub returns-then-size-out-clause-answer_is : goal.returns-then-size-out-clause-answer_is
returns-then-size-out-clause-answer_is c =
    let there = (goal.at.returns-then-size-out-clause-answer_is c).After-ended_length in
    answer_if_short (draft_of c.args.draft.now).line.text c.args.history.now (length c.args.out.now) c.if-history-gt-LONGEST_HISTORY.false (some_to_add there) (omega (arith, size_is there))

pub returns : goal.returns
returns c =
    let text = (draft_of c.args.draft.now).line.text in
    let history = c.args.history.now in
    let there = (goal.at.returns c).After-ended_length in
    let room : length (written text history) ≤ length c.args.out.now = omega (arith, size_is there) in
    record {
      answer_is = answer_if_written text history (length c.args.out.now) c.if-history-gt-LONGEST_HISTORY.false (some_to_add there) _ (size_is there) room;
      after = written_over text history c.last_lines-kept.result.now c.last_lines-kept.ensures.value c.args.out.now c.put_lines-start.new.out c.put_line.new.out _ c.put_lines-start.result room (c.as_slice-line.ensures.value ∙ c.spell-spelling.ensures.value) c.put_lines-start.ensures.value c.put_lines-start.ensures.after c.put_line.ensures.after;
    }
