use Rattle.std.proofs.Common.{◌≡◌, rules}
use Rattle.text.specs.Utf8.{counted}
use Rattle.text.proofs.Readings.{refused_at_fault, counted_exactly}
use Rattle.text.proofs.utf8.count.Goals as goal

pub returns-in_err-text_of : goal.returns-in_err-text_of
returns-in_err-text_of c =
    let refused = refused_at_fault c.args.bytes.now c.in_err-text_of.field-0.0 c.in_err-text_of.ensures.refused in
    let value : c.from_residual.result ≡ counted c.args.bytes.now = search (rules, refused) in
    record { value = value; refused_exactly = counted_exactly c.args.bytes.now _ value }
