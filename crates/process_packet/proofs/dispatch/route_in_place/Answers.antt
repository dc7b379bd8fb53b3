use Rattle.std.proofs.Common.{sym, ◌∙◌}
use Rattle.process_packet.specs.Network.{network}
use Rattle.process_packet.proofs.KindLemmas.{decided_as_one_hop, decided_as_scion}
use Rattle.process_packet.proofs.dispatch.route_in_place.Goals as goal

pub returns-then-is_one_hop-clause-decision : goal.returns-then-is_one_hop-clause-decision
returns-then-is_one_hop-clause-decision c =
    c.one_hop_in_place.ensures.decision ∙ sym (decided_as_one_hop (network c.args.config.now) c.args.link c.args.source c.args.now c.args.bytes.now (sym c.is_one_hop.ensures ∙ c.if-is_one_hop.true)).decision

pub returns-then-is_one_hop-clause-bytes : goal.returns-then-is_one_hop-clause-bytes
returns-then-is_one_hop-clause-bytes c =
    c.one_hop_in_place.ensures.bytes ∙ sym (decided_as_one_hop (network c.args.config.now) c.args.link c.args.source c.args.now c.args.bytes.now (sym c.is_one_hop.ensures ∙ c.if-is_one_hop.true)).bytes_are

pub returns-clause-decision : goal.returns-clause-decision
returns-clause-decision c =
    c.scion_in_place.ensures.decision ∙ sym (decided_as_scion (network c.args.config.now) c.args.link c.args.source c.args.now c.args.bytes.now (sym c.is_one_hop.ensures ∙ c.if-is_one_hop.false)).decision

pub returns-clause-bytes : goal.returns-clause-bytes
returns-clause-bytes c =
    c.scion_in_place.ensures.bytes ∙ sym (decided_as_scion (network c.args.config.now) c.args.link c.args.source c.args.now c.args.bytes.now (sym c.is_one_hop.ensures ∙ c.if-is_one_hop.false)).bytes_are
