use Rattle.net_laws.proofs.RouteBack.{route_back}
use Rattle.net_laws.proofs.laws.routes_turn.Goals as goal

pub returns : goal.returns
returns c net w moment route = route_back w net moment route
