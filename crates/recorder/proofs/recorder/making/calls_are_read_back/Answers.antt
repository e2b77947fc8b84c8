use Rattle.recorder.proofs.Logs.{calls_of_log}
use Rattle.recorder.proofs.recorder.making.calls_are_read_back.Goals as goal

pub returns : goal.returns
returns c = record { law = λ line width ks h. calls_of_log line ks width h }
