use Rattle.process_packet.specs.Network.{network}
use Rattle.router_rules.proofs.AnsweredLemmas.{answered_soundly}
use Rattle.cli_route.proofs.answers.decide_line.Goals as goal

pub write_answer-requires : goal.write_answer-requires
write_answer-requires c p asks =
    let a = c.args.arriving.now in
    (answered_soundly c.answers_are_sound.ensures (network c.args.config.now) a.link a.source a.moment c.args.bytes.now _ c.route_in_place-decision.result
    c.route_in_place-decision.ensures.decision c.route_in_place-decision.ensures.bytes p asks).0
