use Rattle.std.proofs.Common.{◌≡◌, true, false, ap, ◌∙◌}
use Rattle.std.proofs.lemmas.Result.{IfOk-at_ok}
use Rattle.draft.specs.declared.action.DisplayAction.TheVariants.{Redraw}
use Rattle.draft.specs.Draft.{draft_of}
use Rattle.draft.specs.Edits.{inserting, insertion_refused, unless_refused}
use Rattle.history.specs.Readable.{loaded}
use Rattle.history.proofs.Remembering.{readable_loads, readable_is_loadable, nothing_refused, inserted_whole}
use Rattle.history.proofs.store.open.remembered_draft.Goals as goal

pub returns-in_default : goal.returns-in_default
returns-in_default c =
    let never : false ≡ true = c.in_default.ensures.loads_exactly ∙ readable_is_loadable c.args.line.now c.requires.is_readable in
    cc

pub returns-in-Some : goal.returns-in-Some
returns-in-Some c =
    let text = loaded c.args.line.now in
    let slice : c.as_slice.result.now ≡ text = c.as_slice.ensures.value ∙ c.in-Some.ensures.text_is in
    let empty = c.new-draft.ensures.value in
    let accepted = c.insert_str.ensures.answer_is ∙ (λ i. unless_refused (insertion_refused (slice i) (empty i)) Redraw) ∙ ap (λ o. unless_refused o Redraw) (nothing_refused text (readable_loads c.args.line.now c.requires.is_readable)) in
    record { value = IfOk-at_ok (λ _. draft_of c.insert_str.new.self ≡ inserting c.as_slice.result.now (draft_of c.new-draft.result)) accepted c.insert_str.ensures.after ∙ (λ i. inserting (slice i) (empty i)) ∙ inserted_whole text }
