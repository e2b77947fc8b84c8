use Rattle.prompt.proofs.Agrees.{ledger_agrees}
use Rattle.prompt.proofs.laws.ledger_stands.Goals as goal

pub returns : goal.returns
returns c = record { calls_enter_the_ledger = ledger_agrees }
