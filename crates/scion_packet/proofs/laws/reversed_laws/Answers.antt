use Rattle.scion_packet.proofs.Reversing.{back_ends, back_steps}
use Rattle.scion_packet.proofs.laws.reversed_laws.Goals as goal

pub returns : goal.returns
returns c = record { steps = back_steps; ends = back_ends }
