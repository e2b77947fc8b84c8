use Rattle.std.proofs.Common.{◌≡◌, true, rules}
use Rattle.jump.specs.Goto.{ends_in_percent, line_at_percent, without_last}
use Rattle.jump.specs.Numeral.{number_read}
use Rattle.jump.proofs.Targets.{line_reached}
use Rattle.jump.proofs.goto.Listing.target.Goals as goal

pub returns-in-37 : goal.returns-in-37
returns-in-37 c =
    let ends : ends_in_percent c.args.text.now ≡ true = search rules in
    rw ends (record { value = line_reached line_at_percent _ c.args.self.lines (number_read (without_last c.args.text.now)) c.line_by.result (λ n line named. search rules) c.line_by.ensures.value })
