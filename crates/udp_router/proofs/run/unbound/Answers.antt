use Rattle.std.proofs.Common.{ap, sym}
use Rattle.udp_router.specs.Run.{unbound}
use Rattle.udp_router.proofs.run.unbound.Goals as goal

pub returns-in-Socket : goal.returns-in-Socket
returns-in-Socket c = ap unbound (sym c.in-Socket.is)
