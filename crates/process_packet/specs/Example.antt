-- Ports of hosts, and control packets of BFD, by their bytes: the definitions compute what a reader of the standards would.
use Rattle.std.specs.Prelude.{◌≡◌, ℕ, Bool, true, false, List, [], ◌∷◌, Option, Some, None, refl}
use Rattle.scion_packet.specs.OneHop.{OneHopPacket}
use Rattle.segment_switch.specs.declared.kind.LinkKind.TheVariants.{Core}
use Rattle.process_packet.specs.declared.cause.Cause.TheVariants as cause
use Rattle.process_packet.specs.declared.neighbours.Bands.TheVariants.{One}
use Rattle.process_packet.specs.declared.neighbours.Link.{Link}
use Rattle.process_packet.specs.declared.port_range.PortRange.{PortRange}
use Rattle.process_packet.specs.declared.underlay.Ip.TheVariants.{V4}
use Rattle.process_packet.specs.declared.underlay.Underlay.{Underlay}
use Rattle.process_packet.specs.HostPort.{delivered_at, host_port_of}
use Rattle.process_packet.specs.LinkControl.{is_answered}
use Rattle.process_packet.specs.Network.{Network}
use Rattle.process_packet.specs.OneHopRows.{Answered, Dropped, OneHopVerdict, link_control}
use Rattle.process_packet.specs.OneHopState.{OneHopState}

abbrev pub at : ℕ → ℕ → Underlay
at host port = record { ip = V4 (10 ∷ 0 ∷ 0 ∷ host ∷ []); port = port }

abbrev pub link_with : ℕ → Bool → Link
link_with id bfd = record { id = id; kind = Core; local = at 1 40000; remote = at 2 40000; bands = One; neighbor = None; bfd = bfd }

-- BFD is answered over link 7 and not over link 8
abbrev pub network_with : Option PortRange → Network
network_with ports = record {
  isd = 1;
  autonomous_system = 0xff0000000110;
  key = [];
  host_port = 30041;
  dispatched_ports = ports;
  links = link_with 7 true ∷ link_with 8 false ∷ [];
  siblings = [];
  services = [];
}

-- ---- ports

abbrev pub ranged : Network
ranged = network_with (Some (record { first = 31000; last = 32767 }))

-- UDP from port 31500 to the port in these two bytes
abbrev pub udp_to : ℕ → ℕ → List ℕ
udp_to high low = 0x7b ∷ 0x0c ∷ high ∷ low ∷ 0x00 ∷ 0x08 ∷ 0x00 ∷ 0x00 ∷ []

pub first_of_the_range : host_port_of ranged 17 (udp_to 0x79 0x18) ≡ 31000
unfolding host_port_of
first_of_the_range = refl

pub before_the_range : host_port_of ranged 17 (udp_to 0x79 0x17) ≡ 30041
unfolding host_port_of
before_the_range = refl

pub last_of_the_range : host_port_of ranged 17 (udp_to 0x7f 0xff) ≡ 32767
unfolding host_port_of
last_of_the_range = refl

pub after_the_range : host_port_of ranged 17 (udp_to 0x80 0x00) ≡ 30041
unfolding host_port_of
after_the_range = refl

-- the same bytes of another protocol
pub without_port : host_port_of ranged 6 (udp_to 0x79 0x18) ≡ 30041
unfolding host_port_of
without_port = refl

pub without_range : host_port_of (network_with None) 17 (udp_to 0x79 0x18) ≡ 30041
unfolding host_port_of
without_range = refl

-- ---- control packets

-- by their second byte, the state, and the last one of the receiver's discriminator
abbrev pub control : ℕ → ℕ → List ℕ
control state yours =
    0x20 ∷ state ∷ 0x03 ∷ 0x18 ∷ 0x00 ∷ 0x00 ∷ 0x00 ∷ 0x29 ∷ 0x00 ∷ 0x00 ∷ 0x00 ∷ yours
    ∷ 0x00 ∷ 0x0f ∷ 0x42 ∷ 0x40 ∷ 0x00 ∷ 0x03 ∷ 0x0d ∷ 0x40 ∷ 0x00 ∷ 0x00 ∷ 0x00 ∷ 0x00 ∷ []

-- down, with no discriminator of the receiver yet
pub begins : is_answered ranged 7 1 (control 0x40 0) ≡ true
unfolding is_answered
begins = refl

-- up, with the number of the link
pub goes_on : is_answered ranged 7 1 (control 0xc0 7) ≡ true
unfolding is_answered
goes_on = refl

-- and with another one
pub of_another_session : is_answered ranged 7 1 (control 0xc0 9) ≡ false
unfolding is_answered
of_another_session = refl

pub over_another_link : is_answered ranged 8 1 (control 0x40 0) ≡ false
unfolding is_answered
over_another_link = refl

pub of_an_answer : is_answered ranged 7 0xbfda0 (control 0x40 0) ≡ false
unfolding is_answered
of_an_answer = refl

-- ---- the row for them

-- for an address of no kind that the row looks at
abbrev pub packet_with : ℕ → List ℕ → OneHopPacket
packet_with next_header payload = record {
  header = record {
    traffic_class = 0;
    flow_id = 1;
    next_header = next_header;
    header_length = 17;
    payload_length = 24;
    path_type = 2;
    reserved = 0;
    destination = record { isd = 1; autonomous_system = 0xff0000000110; kind = 0; host = 10 ∷ 0 ∷ 0 ∷ 1 ∷ [] };
    source = record { isd = 1; autonomous_system = 0xff0000000111; kind = 0; host = 10 ∷ 0 ∷ 0 ∷ 2 ∷ [] };
  };
  path = record {
    info = record { reserved_flags = 0; along = true; reserved = 0; segment_id = 0; timestamp = 0 };
    first = record { reserved_flags = 0; ingress_alert = false; egress_alert = false; expiry = 63; construction_ingress = 0; construction_egress = 4; mac = [] };
    second = [];
  };
  payload = payload;
}

abbrev pub came : ℕ → ℕ → List ℕ → OneHopState
came link next_header payload = record { network = ranged; link = link; source = at 2 40000; moment = 0; bytes = []; packet = packet_with next_header payload }

pub control_is_answered : link_control (came 7 203 (control 0x40 0)) ≡ Some (Answered (record { kind = 203; code = 0; pointer = 7 }))
unfolding is_answered
control_is_answered = refl

pub control_is_dropped : link_control (came 8 203 (control 0x40 0)) ≡ Some (Dropped cause.OneHopHost)
unfolding is_answered
control_is_dropped = refl

pub control_from_inside : link_control (came 0 203 (control 0x40 0)) ≡ None
control_from_inside = refl

pub other_protocol : link_control (came 7 17 (control 0x40 0)) ≡ None
other_protocol = refl
