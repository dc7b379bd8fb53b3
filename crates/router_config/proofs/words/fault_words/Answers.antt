use Rattle.std.proofs.Common.{rules}
use Rattle.router_config.proofs.words.fault_words.Goals as goal

pub returns-in-Ok-config_at : goal.returns-in-Ok-config_at
returns-in-Ok-config_at c = search rules
