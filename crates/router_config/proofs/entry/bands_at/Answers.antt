use Rattle.router_config.specs.Entry.{bands_at}
use Rattle.std.proofs.Common.{rules}
use Rattle.router_config.proofs.entry.bands_at.Goals as goal

pub returns-in-First : goal.returns-in-First
unfolding bands_at
returns-in-First c = search rules
