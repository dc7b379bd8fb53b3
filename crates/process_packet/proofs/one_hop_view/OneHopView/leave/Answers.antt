use Rattle.std.proofs.Common.{sym, ap, ap₂, ◌∙◌}
use Rattle.path_fields.specs.Fields.{hop_field, info_field}
use Rattle.scion_packet.specs.Header.{HeaderFields, header_of}
use Rattle.scion_packet.specs.Path.{HopField}
use Rattle.process_packet.specs.HostPort.{delivered_at}
use Rattle.process_packet.specs.Network.{Network, network as network_of}
use Rattle.process_packet.proofs.OneHopLemmas.{enters_so, same_second}
use Rattle.process_packet.proofs.one_hop_view.OneHopView.leave.Goals as goal

pub returns-in-Some : goal.returns-in-Some
returns-in-Some c s shows network payload =
    let v = c.args.self.now in
    let external = sym (c.is_external.ensures c.args.bytes.now s shows) ∙ c.if-not-is_external.false in
    let there = ap₂ (λ (n : Network) (h : HeaderFields). delivered_at n h s.packet.payload) (sym network) (sym shows.header)
    ∙ ap (delivered_at (network_of c.args.config.now) (header_of c.args.bytes.now)) (sym payload)
    ∙ sym c.host_at.ensures ∙ c.in-Some.is in
    let hop = c.second_hop.ensures
    ∙ same_second s v.link v.first.expiry c.args.config.now.key (info_field v.info) shows.link (ap (λ (h : HopField). h.expiry) shows.first) (ap (λ (n : Network). n.key) network) shows.info in
    enters_so s c.in-Some.to (hop_field c.second_hop.result) external there hop
