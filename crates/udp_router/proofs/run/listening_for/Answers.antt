use Rattle.std.proofs.Common.{refl}
use Rattle.udp_router.proofs.run.listening_for.Goals as goal

pub returns-in-None : goal.returns-in-None
returns-in-None g c = refl
