use Rattle.std.proofs.lemmas.Grind.{common_steps}
use Rattle.std.proofs.Common.{arith}
use Rattle.process_packet.proofs.request.request_in.Goals as goal

pub returns : goal.returns
returns c = grind (arith, common_steps)
