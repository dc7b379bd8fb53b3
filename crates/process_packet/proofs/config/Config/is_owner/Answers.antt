use Rattle.std.proofs.Common.{rules}
use Rattle.process_packet.proofs.config.Config.is_owner.Goals as goal

pub returns-in-Some : goal.returns-in-Some
returns-in-Some c = search rules
