-- The rows of the decision table. A row ends the decision, or lets the packet go on, changed or not. The sections are those of
-- draft-dekater-scion-dataplane, and the codes those of the SCMP specification, "Parameter Problem".
use Rattle.std.specs.Prelude.{ℕ, Bool, true, false, not, ◌&&◌, ◌||◌, ◌==◌, nat_lt, List, [], ◌∷◌, length, if◌then◌else◌, Option, Some, None, is_some, option_map}
use Rattle.scion_packet.specs.Fault.{Fault, TooShort, WrongVersion, WrongPathType, WrongLength, WrongPath, PeeringSegment}
use Rattle.scion_packet.specs.Header.{HostAddress, header_fault, host_code}
use Rattle.scion_packet.specs.Packet.{Packet, path_bytes}
use Rattle.scion_packet.specs.Path.{path_fault}
use Rattle.segment_switch.specs.Pairs.{is_pair}
use Rattle.segment_switch.specs.declared.kind.LinkKind.{LinkKind}
use Rattle.process_packet.specs.declared.cause.Cause.{Cause}
use Rattle.process_packet.specs.declared.cause.Cause.TheVariants as cause
use Rattle.process_packet.specs.declared.decision.Problem.{Problem}
use Rattle.process_packet.specs.declared.underlay.Underlay.{Underlay}
use Rattle.process_packet.specs.HostPort.{delivered_at}
use Rattle.process_packet.specs.Neighbours.{sibling_at}
use Rattle.process_packet.specs.Network.{Network, own_link, sibling, interface_kind, is_local, is_owner, is_remote}
use Rattle.process_packet.specs.PacketState.{PacketState, packet, arrival_kind, is_external, is_expired, is_authentic, is_along, ingress, egress, entry, ingress_alert, egress_alert, is_first_of_path, is_last_of_segment, is_last_of_path, is_followed, next_place, hop_pointer, info_pointer, chained, turned_back, changed_over, with_place}
use Rattle.process_packet.specs.Request.{is_request}
use Rattle.process_packet.specs.Underlay.{longest_datagram}
use Rattle.process_packet.specs.Scmp.{destination_unreachable_type, invalid_destination_address, invalid_hop_field_mac, invalid_packet_size, invalid_path, invalid_segment_change, invalid_source_address, no_route, parameter_problem_type, path_expired, traceroute_reply_type, unknown_address_format, unknown_cons_egress, unknown_cons_ingress}

-- what becomes of a packet; a packet that is sent stands as it leaves
pub data Verdict : Type 0 where
  Sent : ℕ → Option Underlay → Packet → Verdict
  Answered : Problem → Verdict
  Dropped : Cause → Verdict

-- what a row gives: the packet goes on to the next row, or the decision ends
pub data RowResult : Type 0 where
  GoesOn : PacketState → RowResult
  Ends : Verdict → RowResult

abbrev pub Row : Type 0
Row = PacketState → RowResult

-- a row that ends the decision where its test applies
abbrev pub ends_where : Bool → Verdict → Row
ends_where true v s = Ends v
ends_where false v s = GoesOn s

-- rows in order: the first that ends the decision decides
abbrev pub then_rows : RowResult → List Row → RowResult
then_rows (Ends v) rows = Ends v
then_rows (GoesOn s) [] = GoesOn s
then_rows (GoesOn s) (r ∷ rows) = then_rows (r s) rows

abbrev pub problem : ℕ → ℕ → ℕ → Verdict
problem kind code pointer = Answered (record { kind = kind; code = code; pointer = pointer })

-- SCMP type 4: a field of the packet is wrong
abbrev pub parameter_problem : ℕ → ℕ → Verdict
parameter_problem code pointer = problem parameter_problem_type code pointer

-- SCMP type 131, with the interface that it is asked of
abbrev pub traceroute_reply : ℕ → Verdict
traceroute_reply interface = problem traceroute_reply_type 0 interface

-- ---- the datagram

-- more bytes than any link carries: this router's own limit
abbrev pub too_long : Row
too_long s = ends_where (nat_lt longest_datagram (length s.bytes)) (Dropped cause.TooLong) s

abbrev pub cause_of : Fault → Cause
cause_of TooShort = cause.Short
cause_of WrongVersion = cause.Version
cause_of WrongPathType = cause.PathType
cause_of WrongLength = cause.Header
cause_of WrongPath = cause.Path
cause_of PeeringSegment = cause.Peering

abbrev pub faulty : Option Fault → Row
faulty None s = GoesOn s
faulty (Some f) s = Ends (Dropped (cause_of f))

-- a fault of the common header or the address header ("SCION Header Specification")
abbrev pub faulty_header : Row
faulty_header s = faulty (header_fault s.bytes) s

-- a fault of the path ("SCION Path Type")
abbrev pub faulty_path : Row
faulty_path s = faulty (path_fault (path_bytes s.bytes)) s

-- ---- the hop, and how the packet came

-- the time of the hop field is over ("Hop Field", ExpTime)
abbrev pub expired : Row
expired s = ends_where (is_expired s) (parameter_problem path_expired (hop_pointer s)) s

-- from outside by another link than the hop field names ("Hop Field", ConsIngress and ConsEgress)
abbrev pub wrong_ingress : Row
wrong_ingress s =
    ends_where (is_external s && not (ingress s == s.link)) (parameter_problem (if is_along s then unknown_cons_ingress else unknown_cons_egress) (hop_pointer s)) s

-- the payload isn't as long as the common header says ("SCION Header Specification", PayloadLen)
abbrev pub wrong_payload_length : Row
wrong_payload_length s = ends_where (not (s.header.payload_length == length s.payload)) (parameter_problem invalid_packet_size 0) s

-- from outside by the router at the other end of the link; from inside where the path begins, or by the router that
-- owns the interface of entry
abbrev pub came_lawfully : PacketState → Bool
came_lawfully s =
    if is_external s then is_remote (own_link s.network s.link) s.source
    else is_first_of_path s.path.place || is_owner (sibling s.network (entry s)) s.source

-- from an underlay address that may not send such a packet: this router's own rule
abbrev pub wrong_underlay_source : Row
wrong_underlay_source s = ends_where (not (came_lawfully s)) (Dropped cause.UnderlaySource) s

-- a packet from outside comes from another AS; one that begins its path inside comes from this one
abbrev pub is_source_lawful : PacketState → Bool
is_source_lawful s =
    if is_external s then not (is_local s.network s.header.source)
    else not (is_first_of_path s.path.place) || is_local s.network s.header.source

abbrev pub wrong_source : Row
wrong_source s = ends_where (not (is_source_lawful s)) (parameter_problem invalid_source_address 20) s

-- a packet from outside ends here exactly at its path's last hop; one from inside goes to another AS
abbrev pub is_destination_lawful : PacketState → Bool
is_destination_lawful s =
    let local = is_local s.network s.header.destination in
    if is_external s then (if is_last_of_path s then local else not local) else not local

abbrev pub wrong_destination : Row
wrong_destination s = ends_where (not (is_destination_lawful s)) (parameter_problem invalid_destination_address 12) s

-- From outside against the direction of construction, SegID becomes that of the current hop ("Path Authorization").
abbrev pub turn_back_segment_id : Row
turn_back_segment_id s = GoesOn (turned_back s)

-- another MAC than the AS's key gives ("Hop Field MAC Computation")
abbrev pub wrong_mac : Row
wrong_mac s = ends_where (not (is_authentic s)) (parameter_problem invalid_hop_field_mac (hop_pointer s)) s

-- the ingress router alert flag is set, and the packet is a traceroute request (SCMP specification, "Traceroute Request")
abbrev pub ingress_request : Row
ingress_request s =
    ends_where (is_external s && ingress_alert s && is_request s.header.next_header s.payload) (traceroute_reply (ingress s)) s

-- ---- delivery

-- what its sender is told where it can't be: of a service that the AS doesn't have, or of a host of no known kind
abbrev pub unreachable : HostAddress → Verdict
unreachable a = if a.kind == 1 && host_code a == 0 then problem destination_unreachable_type no_route 0 else parameter_problem unknown_address_format 9

abbrev pub sent_to : Packet → Option Underlay → Verdict
sent_to p None = unreachable p.header.destination
sent_to p (Some at) = Sent 0 (Some at) p

abbrev pub delivered : Network → Packet → Verdict
delivered n p = sent_to p (delivered_at n p.header p.payload)

-- From outside and for this AS: the packet goes to its host, or its sender is told that the host can't be reached.
abbrev pub delivery : Row
delivery s = ends_where (is_external s && is_local s.network s.header.destination) (delivered s.network (packet s)) s

-- ---- leaving

-- at a segment's last hop, if another segment follows: its first hop is looked at as the one before was ("Path Construction")
abbrev pub switch : Row
switch s =
    if is_last_of_segment s && is_followed s
    then then_rows (GoesOn (changed_over s)) (expired ∷ wrong_mac ∷ [])
    else GoesOn s

-- no router of this AS has the egress interface ("Hop Field", ConsIngress and ConsEgress)
abbrev pub unknown_egress : Row
unknown_egress s =
    ends_where (not (is_some (interface_kind s.network (egress s)))) (parameter_problem (if is_along s then unknown_cons_egress else unknown_cons_ingress) (hop_pointer s)) s

abbrev pub known_pair : Bool → Option LinkKind → Option LinkKind → Bool
known_pair switched from None = false
known_pair switched from (Some to) = is_pair switched from to

abbrev pub is_pair_lawful : PacketState → Bool
is_pair_lawful s = known_pair s.switched (arrival_kind s) (interface_kind s.network (egress s))

-- A packet may not come by the one link and leave by the other ("Path Construction").
abbrev pub wrong_pair : Row
wrong_pair s =
    ends_where (not (is_pair_lawful s)) (if s.switched then parameter_problem invalid_segment_change (info_pointer s) else parameter_problem invalid_path (hop_pointer s)) s

-- the egress router alert flag is set, the interface is of this router, and the packet is a traceroute request
abbrev pub egress_request : Row
egress_request s =
    ends_where (is_some (own_link s.network (egress s)) && egress_alert s && is_request s.header.next_header s.payload)
    (traceroute_reply (egress s)) s

-- out by an own link, at the next hop
abbrev pub sent_out : PacketState → ℕ → Verdict
sent_out s link =
    if is_last_of_path s then Dropped cause.PathEnd
    else Sent link None (packet (with_place s (next_place s.path.segments s.path.place)))

-- to the router of this AS that has the egress interface, as the packet stands
abbrev pub sent_on : Packet → Option Underlay → Verdict
sent_on p None = Dropped cause.PathEnd
sent_on p (Some at) = Sent 0 (Some at) p

-- along, the identifier is chained for the next hop ("Path Authorization")
abbrev pub leave : Row
leave s =
    if is_some (own_link s.network (egress s))
    then Ends (sent_out (if is_along s then chained s else s) (egress s))
    else Ends (sent_on (packet s) (option_map sibling_at (sibling s.network (egress s))))
