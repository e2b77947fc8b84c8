use Rattle.history.proofs.Machine.{load_laws, load_examples}
use Rattle.history.proofs.laws.loading_stands.Goals as goal

pub returns : goal.returns
returns c = record { laws = load_laws; examples = load_examples }
