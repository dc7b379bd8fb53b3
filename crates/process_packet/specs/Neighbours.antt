-- Links, siblings' interfaces and services: what their types don't keep of their ranges, and what is told of them.
use Rattle.std.specs.Prelude.{ℕ, Bool, true, false, not, ◌&&◌, ◌||◌, ◌==◌, nat_le, List, [], ◌∷◌, map, Option, Some, None, is_some}
use Rattle.std.specs.List.{list_any}
use Rattle.scion_header.specs.declared.domain.Domain.{Domain}
use Rattle.segment_switch.specs.declared.kind.LinkKind.{LinkKind}
use Rattle.process_packet.specs.declared.neighbours.Bands.{Bands}
use Rattle.process_packet.specs.declared.neighbours.Bands.TheVariants.{One, Two}
use Rattle.process_packet.specs.declared.neighbours.Link.{Link}
use Rattle.process_packet.specs.declared.neighbours.Sibling.{Sibling}
use Rattle.process_packet.specs.declared.neighbours.Service.{Service}
use Rattle.process_packet.specs.declared.port_range.PortRange.{PortRange}
use Rattle.process_packet.specs.declared.underlay.Underlay.{Underlay}

abbrev pub link_id : Link → ℕ
link_id l = l.id

abbrev pub link_kind : Link → LinkKind
link_kind l = l.kind

abbrev pub link_bands : Link → Bands
link_bands l = l.bands

abbrev pub link_neighbor : Link → Option Domain
link_neighbor l = l.neighbor

-- one-hop paths are carried over it
abbrev pub is_neighbored : Link → Bool
is_neighbored l = is_some l.neighbor

abbrev pub sibling_id : Sibling → ℕ
sibling_id s = s.id

abbrev pub sibling_kind : Sibling → LinkKind
sibling_kind s = s.kind

abbrev pub sibling_at : Sibling → Underlay
sibling_at s = s.at

abbrev pub service_number : Service → ℕ
service_number s = s.number

abbrev pub service_at : Service → Underlay
service_at s = s.at

-- port 0 is none
abbrev pub has_port : Underlay → Bool
has_port u = nat_le 1 u.port

-- port 0 is in no range of ports, and none is empty
abbrev pub is_range : PortRange → Bool
is_range r = nat_le 1 r.first && nat_le r.first r.last

abbrev pub is_range_if_there : Option PortRange → Bool
is_range_if_there None = true
is_range_if_there (Some r) = is_range r

-- number 0 is that of the internal network
abbrev pub is_link : Link → Bool
is_link l = nat_le 1 l.id && has_port l.local && has_port l.remote

abbrev pub is_sibling : Sibling → Bool
is_sibling s = nat_le 1 s.id && has_port s.at

abbrev pub is_service : Service → Bool
is_service s = nat_le s.number 32767 && has_port s.at

-- no number stands twice in the list
abbrev pub are_distinct : List ℕ → Bool
are_distinct [] = true
are_distinct (id ∷ ids) = not (list_any (λ other. other == id) ids) && are_distinct ids

-- ---- bands

abbrev pub are_two : Bands → Bool
are_two One = false
are_two Two = true

-- some link, or the internal network, has two bands
abbrev pub is_banded : Bands → List Link → Bool
is_banded internal links = are_two internal || list_any are_two (map link_bands links)
