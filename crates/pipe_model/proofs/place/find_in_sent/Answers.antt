use Rattle.std.proofs.Common.{rules}
use Rattle.pipe_model.proofs.place.find_in_sent.Goals as goal

pub returns-in-Some-true : goal.returns-in-Some-true
returns-in-Some-true c = search rules
