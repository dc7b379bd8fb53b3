use Rattle.std.proofs.Common.{rules}
use Rattle.process_packet.proofs.neighbours.Bands.are_two.Goals as goal

pub returns-in-One : goal.returns-in-One
returns-in-One c = search rules
