use Rattle.router_config.specs.Config.{sizes_at}
use Rattle.std.proofs.Common.{rules}
use Rattle.router_config.proofs.config.sizes_at.Goals as goal

pub returns-in_err-processors-clause-value : goal.returns-in_err-processors-clause-value
unfolding sizes_at
returns-in_err-processors-clause-value c = search rules

pub returns-in_err-capacity-clause-value : goal.returns-in_err-capacity-clause-value
unfolding sizes_at
returns-in_err-capacity-clause-value c = search rules

pub returns-in_err-seed-clause-value : goal.returns-in_err-seed-clause-value
unfolding sizes_at
returns-in_err-seed-clause-value c = search rules

pub returns-in_err-buffers-clause-value : goal.returns-in_err-buffers-clause-value
unfolding sizes_at
returns-in_err-buffers-clause-value c = search rules

pub returns-clause-value : goal.returns-clause-value
unfolding sizes_at
returns-clause-value c = search rules

pub returns-clause-sound : goal.returns-clause-sound
unfolding sizes_at
returns-clause-sound c = search rules
