use Rattle.std.proofs.Common.{ℕ, List, Option, Some, sym, ap, subst, ◌∙◌}
use Rattle.std.specs.Prelude.{option_map}
use Rattle.scion_packet.specs.OneHop.{OneHopPacket, one_hop_spelling}
use Rattle.process_packet.specs.Network.{network}
use Rattle.bfd_answer.specs.Answer.{answer_packet}
use Rattle.bfd_answer.specs.Good.{IfAnswered, IsGoodAnswer}
use Rattle.bfd_answer.proofs.CrossingLemmas.{answered, no_link, no_neighbor}
use Rattle.bfd_answer.proofs.answering.bfd_answer_into.Goals as goal

pub returns-in-None-clause-answer : goal.returns-in-None-clause-answer
returns-in-None-clause-answer c =
    sym (ap (option_map one_hop_spelling) (no_link (network c.args.config.now) c.args.link c.args.now c.args.bytes.now (sym c.in-None.ensures)))

pub returns-in-None-clause-good : goal.returns-in-None-clause-good
returns-in-None-clause-good c =
    subst (λ (o : Option OneHopPacket). IfAnswered o IsGoodAnswer) (sym (no_link (network c.args.config.now) c.args.link c.args.now c.args.bytes.now (sym c.in-None.ensures))) tt

pub returns-in-None-neighbor-clause-answer : goal.returns-in-None-neighbor-clause-answer
returns-in-None-neighbor-clause-answer c =
    let none = no_neighbor (network c.args.config.now) c.args.link c.args.now c.args.bytes.now c.in-Some.own.now (sym c.in-Some.ensures) c.in-None-neighbor.is in
    sym (ap (option_map one_hop_spelling) none)

pub returns-in-None-neighbor-clause-good : goal.returns-in-None-neighbor-clause-good
returns-in-None-neighbor-clause-good c =
    let none = no_neighbor (network c.args.config.now) c.args.link c.args.now c.args.bytes.now c.in-Some.own.now (sym c.in-Some.ensures) c.in-None-neighbor.is in
    subst (λ (o : Option OneHopPacket). IfAnswered o IsGoodAnswer) (sym none) tt

pub returns-in-Some-neighbor-clause-answer : goal.returns-in-Some-neighbor-clause-answer
returns-in-Some-neighbor-clause-answer c =
    let n = network c.args.config.now in
    let own = c.in-Some.own.now in
    let there = c.in-Some-neighbor.there in
    let is = answered n c.args.link c.args.now c.args.bytes.now own there (sym c.in-Some.ensures) c.in-Some-neighbor.is in
    ap Some c.write_packet.ensures.text ∙ ap (λ (r : List ℕ). Some (one_hop_spelling (answer_packet n own there c.args.now r))) c.payload-received.ensures
    ∙ sym (ap (option_map one_hop_spelling) is)

pub returns-in-Some-neighbor-clause-good : goal.returns-in-Some-neighbor-clause-good
returns-in-Some-neighbor-clause-good c =
    let n = network c.args.config.now in
    let own = c.in-Some.own.now in
    let there = c.in-Some-neighbor.there in
    let is = answered n c.args.link c.args.now c.args.bytes.now own there (sym c.in-Some.ensures) c.in-Some-neighbor.is in
    let good = subst (λ (r : List ℕ). IsGoodAnswer (answer_packet n own there c.args.now r)) c.payload-received.ensures c.write_packet.ensures.good in
    subst (λ (o : Option OneHopPacket). IfAnswered o IsGoodAnswer) (sym is) good
