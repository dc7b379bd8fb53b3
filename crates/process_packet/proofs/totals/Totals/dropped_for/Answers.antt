use Rattle.std.proofs.Common.{rules}
use Rattle.process_packet.proofs.totals.Totals.dropped_for.Goals as goal

pub returns : goal.returns
returns c = search rules
