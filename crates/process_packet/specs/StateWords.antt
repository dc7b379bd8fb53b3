-- What the words for a packet's state say of its fields. The rows and the laws above them use these words.
use Rattle.std.specs.Bool.{Decides}
use Rattle.std.specs.Prelude.{◌≡◌, ◌≢◌, ◌+◌, ◌*◌, not, Some, None, length}
use Rattle.scion_packet.specs.Path.{hop_number}
use Rattle.process_packet.specs.declared.neighbours.Link.{Link}
use Rattle.process_packet.specs.Conditions.{AlertsEntry, AlertsExit, CarriesMac, ComesInBy, GoesOutBy, IsAtPathEnd, IsHere, IsInTime, IsTracerouteRequest}
use Rattle.process_packet.specs.Network.{is_local, own_link}
use Rattle.process_packet.specs.Request.{is_request}
use Rattle.process_packet.specs.PacketState.{PacketState, arrival_kind, egress, egress_alert, hop, hop_pointer, info, info_pointer, ingress, ingress_alert, is_authentic, is_expired, is_external, is_last_of_path}

pub record SaysItsFields (s : PacketState) : Type 0 where
  pub external : Decides (is_external s) (s.link ≢ 0)
  pub in_time : Decides (not (is_expired s)) (IsInTime (info s) (hop s) s.moment)
  pub authentic : Decides (is_authentic s) (CarriesMac s.network.key (info s).segment_id (info s) (hop s))
  pub ingress : ComesInBy (info s) (hop s) (ingress s)
  pub egress : GoesOutBy (info s) (hop s) (egress s)
  pub ingress_alert : Decides (ingress_alert s) (AlertsEntry (info s) (hop s))
  pub egress_alert : Decides (egress_alert s) (AlertsExit (info s) (hop s))
  pub request : Decides (is_request s.header.next_header s.payload) (IsTracerouteRequest s.header.next_header s.payload)
  pub last : Decides (is_last_of_path s) (IsAtPathEnd s)
  pub from_here : Decides (is_local s.network s.header.source) (IsHere s.network s.header.source)
  pub for_here : Decides (is_local s.network s.header.destination) (IsHere s.network s.header.destination)
  pub came_by : (own : Link) → s.link ≢ 0 → own_link s.network s.link ≡ Some own → arrival_kind s ≡ Some own.kind
  pub from_inside : s.link ≡ 0 → arrival_kind s ≡ None
  -- behind the address header, the path's four bytes and eight for each segment
  pub hop_pointer : hop_pointer s ≡ 28 + length s.header.destination.host + length s.header.source.host + 4 + 8 * length s.path.segments + 12 * hop_number s.path.segments s.path.place
  pub info_pointer : info_pointer s ≡ 28 + length s.header.destination.host + length s.header.source.host + 4 + 8 * s.path.place.segment

abbrev pub WordsSayFields : Type 0
WordsSayFields = (s : PacketState) → SaysItsFields s
