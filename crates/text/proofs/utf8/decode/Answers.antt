use Rattle.std.proofs.Common.{◌≡◌, ◌∙◌, arith, rules}
use Rattle.text.specs.Utf8.{characters, counted}
use Rattle.text.proofs.Readings.{refused_at_fault, counted_exactly, writing_none, writing_more}
use Rattle.text.proofs.utf8.decode.Goals as goal

pub returns-in_err-text : goal.returns-in_err-text
returns-in_err-text c =
    let refused = refused_at_fault c.args.bytes.now c.in_err-text.field-0.0 c.in_err-text.ensures.refused in
    let value : c.from_residual.result ≡ counted c.args.bytes.now = search (rules, refused) in
    record { value = value; refused_exactly = counted_exactly c.args.bytes.now _ value; written = search rules; unchanged_if_refused = search rules }

pub loop-place-init : goal.loop-place-init
loop-place-init c = let read = c.in_ok-text.ensures.read in rw (c.chars-characters.ensures.rest ∙ read.0) (writing_none c.args.bytes.now c.args.out.now read.1)

pub loop-place-preserved : goal.loop-place-preserved
loop-place-preserved c = rw c.from.ensures (writing_more (characters c.args.bytes.now) c.loop-place.characters.rest.now c.args.out.now c.loop-place.out c.loop-place.place-index c.in-Some.character c.next.new.self.rest.now (omega arith) c.loop-place.invariant c.in-Some.ensures.steps.0)
