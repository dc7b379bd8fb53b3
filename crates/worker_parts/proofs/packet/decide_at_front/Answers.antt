use Rattle.std.proofs.Common.{◌≡◌, ℕ, List, subst}
use Rattle.process_packet.specs.Decide.{decide}
use Rattle.process_packet.specs.Network.{network}
use Rattle.worker_parts.proofs.packet.decide_at_front.Goals as goal

pub returns-clause-decision : goal.returns-clause-decision
returns-clause-decision c =
    let by : ℕ → Type 0 = λ l. c.route_in_place.result ≡ decide (network c.args.config.now) l c.args.source c.args.now c.split_at_mut-front.result.0.now in
    let of : List ℕ → Type 0 = λ b. c.route_in_place.result ≡ decide (network c.args.config.now) c.args.interface c.args.source c.args.now b in
    subst of c.split_at_mut-front.ensures.front (subst by c.id.ensures c.route_in_place.ensures.decision)
