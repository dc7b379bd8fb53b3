-- Two ASes under a third one, which has two routers and a neighbour in the core. A path from the one to the other, up against the
-- direction of construction and down along; and a packet from the core neighbour over the one router and down from the other.
use Rattle.std.specs.Prelude.{true, false, List, [], ◌∷◌}
use Rattle.hop_check.specs.Mac.{chain}
use Rattle.scion_packet.specs.Packet.{Packet}
use Rattle.scion_packet.specs.Path.{HopField, InfoField, place_at}
use Rattle.segment_switch.specs.declared.kind.LinkKind.TheVariants.{Core, Parent, Child}
use Rattle.process_packet.specs.declared.underlay.Ip.TheVariants.{V4}
use Rattle.net_laws.specs.Example.{address, beaconed, link_to, router_in}
use Rattle.net_laws.specs.ExampleHops.{entry_of_as}
use Rattle.net_laws.specs.PathSegments.{PathSegment, segments_of}
use Rattle.net_laws.specs.Stands.{PacketAt}
use Rattle.net_laws.specs.Net.{Net, Router, end_at}

abbrev pub one_child : Router
one_child = router_in 0xff0000000111 (address 9 1 30000) (link_to 17 Parent (address 1 2 40000) (address 1 1 40000) ∷ []) []

abbrev pub parent : Router
parent =
    router_in 0xff0000000110 (address 0 1 30000) (link_to 1 Child (address 1 1 40000) (address 1 2 40000) ∷ link_to 3 Core (address 3 1 40000) (address 3 2 40000) ∷ [])
    (record { id = 2; kind = Child; at = address 0 2 30000 } ∷ [])

abbrev pub second_parent : Router
second_parent =
    router_in 0xff0000000110 (address 0 2 30000) (link_to 2 Child (address 2 1 40000) (address 2 2 40000) ∷ [])
    (record { id = 1; kind = Child; at = address 0 1 30000 } ∷ record { id = 3; kind = Core; at = address 0 1 30000 } ∷ [])

abbrev pub other_child : Router
other_child = router_in 0xff0000000112 (address 8 1 30000) (link_to 18 Parent (address 2 2 40000) (address 2 1 40000) ∷ []) []

abbrev pub neighbour : Router
neighbour = router_in 0xff0000000120 (address 7 1 30000) (link_to 19 Core (address 3 2 40000) (address 3 1 40000) ∷ []) []

abbrev pub family : Net
family = record {
  routers = one_child ∷ parent ∷ second_parent ∷ other_child ∷ neighbour ∷ [];
  wires = record { one = end_at 0 17; other = end_at 1 1 } ∷ record { one = end_at 2 2; other = end_at 3 18 } ∷ record { one = end_at 4 19; other = end_at 1 3 } ∷ [];
}

abbrev pub up_0 : HopField
up_0 = beaconed 0x1111 0 1

abbrev pub up_1 : HopField
up_1 = beaconed (chain 0x1111 up_0.mac) 17 0

abbrev pub down_0 : HopField
down_0 = beaconed 0x2222 0 2

abbrev pub down_1 : HopField
down_1 = beaconed (chain 0x2222 down_0.mac) 18 0

abbrev pub up_info : InfoField
up_info = record { reserved_flags = 0; along = false; reserved = 0; segment_id = chain 0x1111 up_0.mac; timestamp = 1694498816 }

abbrev pub down_info : InfoField
down_info = record { reserved_flags = 0; along = true; reserved = 0; segment_id = 0x2222; timestamp = 1694498816 }

abbrev pub up : PathSegment
up = record { info = up_info; beta = 0x1111; is_core = false; made = entry_of_as 0xff0000000110 1 up_0 ∷ entry_of_as 0xff0000000111 0 up_1 ∷ [] }

abbrev pub down : PathSegment
down = record { info = down_info; beta = 0x2222; is_core = false; made = entry_of_as 0xff0000000110 2 down_0 ∷ entry_of_as 0xff0000000112 3 down_1 ∷ [] }

abbrev pub turn : List PathSegment
turn = up ∷ down ∷ []

-- ---- over the core, and down

abbrev pub over_0 : HopField
over_0 = beaconed 0x3333 0 19

abbrev pub over_1 : HopField
over_1 = beaconed (chain 0x3333 over_0.mac) 3 0

abbrev pub over_info : InfoField
over_info = record { reserved_flags = 0; along = true; reserved = 0; segment_id = 0x3333; timestamp = 1694498816 }

abbrev pub over : PathSegment
over = record { info = over_info; beta = 0x3333; is_core = true; made = entry_of_as 0xff0000000120 4 over_0 ∷ entry_of_as 0xff0000000110 1 over_1 ∷ [] }

abbrev pub descent : List PathSegment
descent = over ∷ down ∷ []

-- from 1-ff00:0:120, 10.1.0.5 to 1-ff00:0:112, 10.2.0.7, at the first hop
abbrev pub descent_packet : Packet
descent_packet = record {
  header = record {
    traffic_class = 0;
    flow_id = 1;
    next_header = 17;
    header_length = 26;
    payload_length = 8;
    path_type = 1;
    reserved = 0;
    destination = record { isd = 1; autonomous_system = 0xff0000000112; kind = 0; host = 10 ∷ 2 ∷ 0 ∷ 7 ∷ [] };
    source = record { isd = 1; autonomous_system = 0xff0000000120; kind = 0; host = 10 ∷ 1 ∷ 0 ∷ 5 ∷ [] };
  };
  path = record { reserved = 0; place = place_at 0 0; segments = segments_of descent };
  payload = 0x75 ∷ 0x59 ∷ 0x75 ∷ 0x59 ∷ 0x00 ∷ 0x08 ∷ 0x00 ∷ 0x00 ∷ [];
}

-- as its host hands it to the router of its AS
abbrev pub descent_start : PacketAt
descent_start = record { router = 4; link = 0; source = record { ip = V4 (10 ∷ 1 ∷ 0 ∷ 5 ∷ []); port = 30041 }; packet = descent_packet }
