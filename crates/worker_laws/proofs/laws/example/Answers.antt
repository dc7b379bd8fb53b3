use Rattle.worker_laws.proofs.SmallRun.{is_example}
use Rattle.worker_laws.proofs.laws.example.Goals as goal

pub returns : goal.returns
returns c = record { example = is_example }
