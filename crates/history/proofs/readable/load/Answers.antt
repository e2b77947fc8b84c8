use Rattle.std.proofs.Common.{◌≡◌, ◌<◌, [], ◌∷◌, ◌++◌, length, rules, sym, subst, ◌∙◌, ap, eqb, false, is_some}
use Rattle.draft.specs.Line.{capacity}
use Rattle.history.specs.Readable.{loadable}
use Rattle.history.proofs.Texts.{LoadedSoFar, loaded_none, nothing_loaded_more, one_loaded_more, if_then_some, loaded_whole, loaded_to_the_end, loaded_too_many}
use Rattle.history.specs.declared.loader.Loader.TheVariants.{Plain}
use Rattle.history.proofs.readable.load.Goals as goal

pub loop-c-init : goal.loop-c-init
loop-c-init c = subst (λ text. LoadedSoFar c.args.line.now c.args.line.now Plain text) (sym c.new-text.ensures) (loaded_none c.args.line.now)

pub returns-in_err-ok-clause-loads_exactly : goal.returns-in_err-ok-clause-loads_exactly
returns-in_err-ok-clause-loads_exactly c =
    let full : length c.loop-c.text.items ≡ capacity = search rules in
    let none : is_some c.from_residual.result ≡ false = search rules in
    none ∙ sym (loaded_too_many c.args.line.now c.loop-c.rest.now c.loop-c.loader c.loop-c.text.items c.loop-c.invariant c.in-Some.c c.in-Some.after.now c.in-Some-take.code c.in-Some.ensures.value c.in-Some-take.ensures.answer_is full)

pub loop-c-preserved-in_ok-ok : goal.loop-c-preserved-in_ok-ok
loop-c-preserved-in_ok-ok c =
    let room : length c.loop-c.text.items < capacity = search rules in
    let pushed : c.try_push.new.self.items ≡ c.loop-c.text.items ++ c.in-Some-take.code ∷ [] = search rules in
    subst (λ text. LoadedSoFar c.args.line.now c.in-Some.after.now c.take.new.self text) (sym pushed)
    (one_loaded_more c.args.line.now c.loop-c.rest.now c.loop-c.loader c.loop-c.text.items c.in-Some.c c.in-Some.after.now c.loop-c.invariant c.in-Some.ensures.value c.take.new.self c.in-Some-take.code c.in-Some-take.ensures.after c.in-Some-take.ensures.answer_is room)

pub loop-c-preserved : goal.loop-c-preserved
loop-c-preserved c =
    nothing_loaded_more c.args.line.now c.loop-c.rest.now c.loop-c.loader c.loop-c.text.items c.in-Some.c c.in-Some.after.now c.loop-c.invariant c.in-Some.ensures.value c.take.new.self c.in_default-take.ensures.after c.in_default-take.ensures.answer_is

pub returns-clause-loads_exactly : goal.returns-clause-loads_exactly
returns-clause-loads_exactly c =
    let all : eqb (length c.loop-c.rest.now) 0 ≡ loadable c.args.line.now = loaded_to_the_end c.args.line.now c.loop-c.rest.now c.loop-c.loader c.loop-c.text.items c.loop-c.invariant c.in_default.ensures.value in
    let given = if_then_some c.is_empty.result c.loop-c.text (λ _. Unit {0}) (λ _. tt) in
    ap is_some c.then_some.ensures ∙ given.0 ∙ c.is_empty.ensures ∙ all

pub returns-clause-text_is : goal.returns-clause-text_is
returns-clause-text_is c =
    rw c.then_some.ensures (if_then_some c.is_empty.result c.loop-c.text _ (λ whole. (loaded_whole c.args.line.now c.loop-c.rest.now c.loop-c.loader c.loop-c.text.items c.loop-c.invariant (search rules)).1)).1
