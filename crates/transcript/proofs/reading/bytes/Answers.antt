use Rattle.std.proofs.Common.{◌≡◌, [], ◌∷◌, ◌++◌, append-nil, refl, subst}
use Rattle.std.specs.Str.Iter.{split_whitespace_rest}
use Rattle.transcript.specs.declared.fault.CallError.TheVariants.{Fault}
use Rattle.transcript.proofs.Words.{spells_on, same_error}
use Rattle.transcript.specs.Reading.{BeginsWith, BeginsWithNoByte, IsBlank, IsNoBytes, SpellsThen}
use Rattle.transcript.proofs.reading.bytes.Goals as goal

pub returns-in_err-byte-clause-err : goal.returns-in_err-byte-clause-err
returns-in_err-byte-clause-err c =
    let text = c.args.words.now in
    let so_far = c.loop-word.bytes.items in
    let rest = split_whitespace_rest c.loop-word.word-iterator in
    let none = c.in_err-byte.ensures.err in
    let s = c.in-Some.ensures.steps in
    let begins : BeginsWith rest c.in-Some.word.now (split_whitespace_rest c.next.new.self) = record { gap = s.0; whole = s.1; some = s.2; blank = s.3; solid = s.4; more = s.5.0; parted = s.5.1 } in
    let broken = spells_on BeginsWithNoByte so_far [] text rest c.loop-word.invariant.2 (_, _, begins, none.1) in
    same_error (IsNoBytes text) (Fault c.in_err-byte.field-0.0) c.from_residual.result c.from_residual.ensures.1 (none.0, (so_far ++ [], broken))

pub loop-word-preserved : goal.loop-word-preserved
loop-word-preserved c =
    let text = c.args.words.now in
    let so_far = c.loop-word.bytes.items in
    let rest = split_whitespace_rest c.loop-word.word-iterator in
    let after = split_whitespace_rest c.next.new.self in
    let s = c.in-Some.ensures.steps in
    let begins : BeginsWith rest c.in-Some.word.now after = record { gap = s.0; whole = s.1; some = s.2; blank = s.3; solid = s.4; more = s.5.0; parted = s.5.1 } in
    let more = spells_on (λ t. t ≡ after) so_far (c.in_ok-byte.field-0 ∷ []) text rest c.loop-word.invariant.2 (_, _, begins, c.in_ok-byte.ensures.ok, refl) in
    (tt, tt, rw c.in_ok-push.ensures.items more)

pub returns-clause-ok : goal.returns-clause-ok
returns-clause-ok c =
    let so_far = c.loop-word.bytes.items in
    let whole = spells_on IsBlank so_far [] c.args.words.now (split_whitespace_rest c.loop-word.word-iterator) c.loop-word.invariant.2 c.in-None.ensures.steps.1 in
    subst (λ bs. SpellsThen IsBlank bs c.args.words.now) (append-nil so_far) whole
