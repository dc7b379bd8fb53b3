use Rattle.net_laws.proofs.HopsRoute.{is_route}
use Rattle.net_laws.proofs.laws.hops_make_routes.Goals as goal

pub returns : goal.returns
returns c net ss moment agrees numbered macs path fresh few = is_route net ss moment agrees numbered macs path fresh few
