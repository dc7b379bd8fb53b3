-- What is delivered of what comes from outside.
use Rattle.std.specs.Prelude.{◌≡◌, ◌≢◌, true, false, List, [], ◌∷◌}
use Rattle.scion_packet.specs.Packet.{packet_of}
use Rattle.process_packet.specs.Conditions.{IsAtPathEnd, IsHere}
use Rattle.process_packet.specs.Hosts.{IsSentToHost}
use Rattle.process_packet.specs.Laws.{IsAuthorised}
use Rattle.process_packet.specs.PacketState.{arrives, hop, info, is_along}
use Rattle.net_laws.specs.Net.{Net}
use Rattle.net_laws.specs.PathSegments.{PathSegment, entry_at}
use Rattle.path_authorisation.specs.Beaconed.{IsMade, NoMacIsForged}
use Rattle.path_authorisation.specs.Sendings.{IsOnLongPath, IsSending, Sending, at_entry}

-- It showed all that a packet must show, and stands at its path's last hop. That hop field was made by this AS, in a segment that was
-- beaconed, for the link by which the packet came: as ConsIngress in the direction of construction, as ConsEgress against it. It goes to
-- its own host or service.
pub record IsAuthorisedDelivery (set : List PathSegment) (s : Sending) : Type 0 where
  pub shown : IsAuthorised (arrives s.here.network s.link s.source s.moment s.bytes)
  pub ends : IsAtPathEnd (arrives s.here.network s.link s.source s.moment s.bytes)
  pub made : IsMade set s.here (info (at_entry s)) (hop (at_entry s))
  pub along : is_along (at_entry s) ≡ true → s.link ≡ (entry_at made.segment made.number).field.construction_ingress
  pub against : is_along (at_entry s) ≡ false → s.link ≡ (entry_at made.segment made.number).field.construction_egress
  pub host : IsSentToHost s.here.network (packet_of s.bytes).header (packet_of s.bytes).payload s.out s.to

-- Of what comes from outside, is for this AS and is sent, wherever it was before.
abbrev pub DeliveriesAreAuthorised : Type 0
DeliveriesAreAuthorised =
    (net : Net) (set : List PathSegment) (s : Sending) → IsSending net s → IsOnLongPath s → s.link ≢ 0 → IsHere s.here.network (packet_of s.bytes).header.destination
    → NoMacIsForged set (s ∷ []) → IsAuthorisedDelivery set s
