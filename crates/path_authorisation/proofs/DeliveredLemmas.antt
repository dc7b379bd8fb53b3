-- A delivery from outside is authorised.
use Rattle.std.proofs.Common.{◌≡◌, ◌&&◌, not, Bool, true, refl, sym, ap, ap₂, ◌∙◌, if◌then◌else◌}
use Rattle.std.proofs.lemmas.Bool.{ne_eqb}
use Rattle.scion_packet.specs.Packet.{packet_of}
use Rattle.scion_packet.specs.Path.{HopField}
use Rattle.process_packet.specs.Laws.{IsAuthorised}
use Rattle.process_packet.specs.PacketState.{PacketState, hop, info, ingress}
use Rattle.process_packet.specs.Shown.{is_for_us}
use Rattle.process_packet.proofs.ConditionLemmas.{ingress_alone, is_here}
use Rattle.process_packet.proofs.DeliveredLemmas.{to_its_host}
use Rattle.process_packet.proofs.TurningLemmas.{turned_along, turned_hop}
use Rattle.path_authorisation.specs.Beaconed.{IsMade, LooksAt}
use Rattle.path_authorisation.specs.Delivered.{DeliveriesAreAuthorised}
use Rattle.path_authorisation.specs.Sendings.{at_entry}
use Rattle.path_authorisation.proofs.AcceptedLemmas.{carries_entry, names_entry}
use Rattle.path_authorisation.proofs.WayLemmas.{authorised, state, whole}

pub deliveries_authorised : DeliveriesAreAuthorised
deliveries_authorised net set s is long outside here unforged =
    let a : PacketState = state net s is long in
    let e : PacketState = at_entry s in
    let shown : IsAuthorised a = authorised net s is long in
    let w = whole net s is long in
    let for_us : is_for_us a ≡ true =
    ap₂ (λ (b c : Bool). not b && c) (ne_eqb s.link 0 outside) ((is_here s.here.network (packet_of s.bytes).header.destination).1 here) in
    let made : IsMade set s.here (info e) (hop e) =
    unforged 0 s e refl LooksAt.where_it_comes (carries_entry net s is long) in
    let named : s.link ≡ ingress e = names_entry net s is long outside in
    record {
      shown = shown;
      ends = shown.destination.ends outside here;
      made = made;
      along = λ forward. named ∙ ap (λ (b : Bool). if b then (hop e).construction_ingress else (hop e).construction_egress) forward ∙ made.entry.ingress;
      against = λ backward. named ∙ ap (λ (b : Bool). if b then (hop e).construction_ingress else (hop e).construction_egress) backward ∙ made.entry.egress;
      host = to_its_host s.here.network s.link s.source s.moment s.bytes s.out s.to w.packet w.verdict for_us;
    }
