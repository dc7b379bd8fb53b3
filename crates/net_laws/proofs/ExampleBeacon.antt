-- Two ASes whose link is neighboured at both ends, and a packet on a path of one hop over it.
use Rattle.std.proofs.Common.{◌≡◌, ◌≤◌, ◌*◌, ◌+◌, ℕ, [], ◌∷◌, length, Some, refl, arith, inl}
use Rattle.aes128_core.specs.Aes128.{cipher}
use Rattle.cmac_core.specs.Cmac.{first_blocks, tag_from}
use Rattle.field_rows.specs.Row.{Fits}
use Rattle.scion_header.specs.declared.domain.Domain.{Domain}
use Rattle.scion_packet.specs.Header.{IsAddress, common_table, front_len}
use Rattle.scion_packet.specs.OneHop.{IsOneHopPacket, OneHopPacket, one_hop_spelling, one_hop_text}
use Rattle.scion_packet.specs.Path.{IsHop, info_table}
use Rattle.segment_switch.specs.declared.kind.LinkKind.{LinkKind}
use Rattle.segment_switch.specs.declared.kind.LinkKind.TheVariants.{Child, Parent}
use Rattle.process_packet.specs.declared.neighbours.Link.{Link}
use Rattle.process_packet.specs.declared.underlay.Ip.TheVariants.{V4}
use Rattle.process_packet.specs.declared.underlay.Underlay.{Underlay}
use Rattle.process_packet.specs.Hosts.{IsReachedAt}
use Rattle.net_laws.specs.Example.{address, hop_0, info_along, link_to, router_in}
use Rattle.net_laws.specs.Examples.{OneHopExample, moment}
use Rattle.net_laws.specs.LawfulStart.{IsKnown}
use Rattle.net_laws.specs.Net.{Agrees, Net, Router, end_at}
use Rattle.net_laws.specs.OneHopStart.{LawfulOneHopStart, OneHopAt}
use Rattle.net_laws.proofs.AgreementLemmas.{net_decides}
use Rattle.net_laws.proofs.ExampleFields.{is_hop}

parent_as : Domain
parent_as = record { isd = 1; autonomous_system = 0xff0000000111; isd_fits = omega arith; autonomous_system_fits = omega arith }

child_as : Domain
child_as = record { isd = 1; autonomous_system = 0xff0000000110; isd_fits = omega arith; autonomous_system_fits = omega arith }

abbrev neighbored : ℕ → LinkKind → Underlay → Underlay → Domain → Link
neighbored id kind local remote named = record (link_to id kind local remote) { neighbor = Some named }

abbrev parent_link : Link
parent_link = neighbored 17 Child (address 1 2 40000) (address 1 1 40000) child_as

abbrev child_link : Link
child_link = neighbored 1 Parent (address 1 1 40000) (address 1 2 40000) parent_as

abbrev parent_router : Router
parent_router = router_in 0xff0000000111 (address 9 1 30000) (parent_link ∷ []) []

abbrev child_router : Router
child_router = router_in 0xff0000000110 (address 0 1 30000) (child_link ∷ []) []

abbrev both : Net
both = record { routers = parent_router ∷ child_router ∷ []; wires = record { one = end_at 0 17; other = end_at 1 1 } ∷ [] }

-- from 1-ff00:0:111, 10.1.0.5 to 1-ff00:0:110, 10.2.0.7
abbrev beacon : OneHopPacket
beacon = record {
  header = record {
    traffic_class = 0;
    flow_id = 1;
    next_header = 17;
    header_length = 17;
    payload_length = 8;
    path_type = 2;
    reserved = 0;
    destination = record { isd = 1; autonomous_system = 0xff0000000110; kind = 0; host = 10 ∷ 2 ∷ 0 ∷ 7 ∷ [] };
    source = record { isd = 1; autonomous_system = 0xff0000000111; kind = 0; host = 10 ∷ 1 ∷ 0 ∷ 5 ∷ [] };
  };
  path = record { info = info_along; first = hop_0; second = 0 ∷ 0 ∷ 0 ∷ 0 ∷ 0 ∷ 0 ∷ 0 ∷ 0 ∷ 0 ∷ 0 ∷ 0 ∷ 0 ∷ [] };
  payload = 0x75 ∷ 0x59 ∷ 0x75 ∷ 0x59 ∷ 0x00 ∷ 0x08 ∷ 0x00 ∷ 0x00 ∷ [];
}

abbrev start : OneHopAt
start = record { router = 0; link = 0; source = record { ip = V4 (10 ∷ 1 ∷ 0 ∷ 5 ∷ []); port = 30041 }; packet = beacon }

agrees : Agrees both
unfolding parent_as child_as
agrees = (net_decides both).0 refl

six : length hop_0.mac ≡ 6
unfolding tag_from first_blocks cipher
six = refl

size : length (one_hop_spelling beacon) ≡ 76
unfolding tag_from first_blocks cipher
size = refl

path_size : 4 * beacon.header.header_length ≡ front_len beacon.header + length (one_hop_text beacon.path)
unfolding tag_from first_blocks cipher
path_size = refl

common : Fits (common_table beacon.header)
common = ((omega arith, (omega arith, (omega arith, tt))), ((omega arith, tt), ((omega arith, tt), ((omega arith, tt), ((omega arith, tt), ((omega arith, (omega arith, (omega arith, (omega arith, tt)))), ((omega arith, tt), tt)))))))

destination : IsAddress beacon.header.destination
destination = (((omega arith, tt), ((omega arith, tt), tt)), refl)

source : IsAddress beacon.header.source
source = (((omega arith, tt), ((omega arith, tt), tt)), refl)

info : Fits (info_table info_along)
info = ((omega arith, (omega arith, (omega arith, tt))), ((omega arith, tt), ((omega arith, tt), ((omega arith, tt), tt))))

first_is : IsHop hop_0
first_is = is_hop 0 17 hop_0.mac (omega arith) (omega arith) six

packet_is : IsOneHopPacket beacon
packet_is = record {
  header = record { common = common; destination = destination; source = source; covers = omega arith };
  path_type = refl;
  path = record { info = info; along = refl; first = first_is; second_len = refl };
  whole = path_size;
}

short : length (one_hop_spelling beacon) ≤ 9216
short = let n = size in omega arith

known : IsKnown child_router beacon.header.destination
known = record { at = λ port. record { ip = V4 (10 ∷ 2 ∷ 0 ∷ 7 ∷ []); port = port }; reached = λ port. IsReachedAt.ip_4 refl refl }

starts : LawfulOneHopStart both moment start
starts = record {
  lawful = packet_is;
  whole = refl;
  short = short;
  link = refl;
  near = record { router = parent_router; there = refl; link = parent_link; listed = refl; end = child_as; named = refl };
  entry = end_at 1 1;
  far = record { router = child_router; there = refl; link = child_link; listed = refl; end = parent_as; named = refl };
  wire = inl (0, (omega arith), refl);
  begins = refl;
  mac = refl;
  unexpired = refl;
  begun = omega arith;
  source = record { isd = refl; autonomous_system = refl };
  destination = record { isd = refl; autonomous_system = refl };
  known = known;
  other = λ bfd. absurd (omega arith);
}

pub beacon_is : OneHopExample
beacon_is = record { net = both; agrees = agrees; start = start; starts = starts }
