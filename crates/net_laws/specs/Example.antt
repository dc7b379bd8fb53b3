-- Three ASes of one router each, and a packet from the first to the last of them: the definitions of a route hold of it.
use Rattle.std.specs.Prelude.{ℕ, true, false, List, [], ◌∷◌, None}
use Rattle.hop_check.specs.Mac.{chain, mac6}
use Rattle.scion_packet.specs.Path.{HopField, InfoField}
use Rattle.segment_switch.specs.declared.kind.LinkKind.{LinkKind}
use Rattle.segment_switch.specs.declared.kind.LinkKind.TheVariants.{Core, Parent, Child}
use Rattle.process_packet.specs.declared.neighbours.Bands.TheVariants.{One}
use Rattle.process_packet.specs.declared.neighbours.Link.{Link}
use Rattle.process_packet.specs.declared.neighbours.Sibling.{Sibling}
use Rattle.process_packet.specs.declared.underlay.Ip.TheVariants.{V4}
use Rattle.process_packet.specs.declared.underlay.Underlay.{Underlay}
use Rattle.net_laws.specs.Net.{Net, Router, end_at}
use Rattle.net_laws.specs.Domain.{Domain}

abbrev pub address : ℕ → ℕ → ℕ → Underlay
address net host port = record { ip = V4 (10 ∷ net ∷ 0 ∷ host ∷ []); port = port }

abbrev pub link_to : ℕ → LinkKind → Underlay → Underlay → Link
link_to id kind local remote = record { id = id; kind = kind; local = local; remote = remote; bands = One; neighbor = None; bfd = false }

-- one key for all of them
abbrev pub example_key : List ℕ
example_key = 0x2b ∷ 0x7e ∷ 0x15 ∷ 0x16 ∷ 0x28 ∷ 0xae ∷ 0xd2 ∷ 0xa6 ∷ 0xab ∷ 0xf7 ∷ 0x15 ∷ 0x88 ∷ 0x09 ∷ 0xcf ∷ 0x4f ∷ 0x3c ∷ []

abbrev pub router_in : ℕ → Underlay → List Link → List Sibling → Router
router_in number internal links siblings = record {
  network = record { isd = 1; autonomous_system = number; key = example_key; host_port = 30041; dispatched_ports = None; links = links; siblings = siblings; services = [] };
  internal = internal;
}

abbrev pub first_router : Router
first_router = router_in 0xff0000000111 (address 9 1 30000) (link_to 17 Child (address 1 2 40000) (address 1 1 40000) ∷ []) []

abbrev pub middle_router : Router
middle_router =
    router_in 0xff0000000110 (address 0 1 30000)
    (link_to 1 Parent (address 1 1 40000) (address 1 2 40000)
    ∷ link_to 2 Child (address 2 1 40000) (address 2 2 40000)
    ∷ link_to 3 Core (address 3 1 40000) (address 3 2 40000)
    ∷ [])
    (record { id = 4; kind = Child; at = address 0 2 30000 } ∷ [])

abbrev pub last_router : Router
last_router = router_in 0xff0000000112 (address 8 1 30000) (link_to 18 Parent (address 2 2 40000) (address 2 1 40000) ∷ []) []

abbrev pub example_net : Net
example_net = record {
  routers = first_router ∷ middle_router ∷ last_router ∷ [];
  wires = record { one = end_at 0 17; other = end_at 1 1 } ∷ record { one = end_at 1 2; other = end_at 2 18 } ∷ [];
}

abbrev pub info_along : InfoField
info_along = record { reserved_flags = 0; along = true; reserved = 0; segment_id = 0x1234; timestamp = 1694498816 }

abbrev pub hop_with : ℕ → ℕ → List ℕ → HopField
hop_with ingress egress mac =
    record { reserved_flags = 0; ingress_alert = false; egress_alert = false; expiry = 63; construction_ingress = ingress; construction_egress = egress; mac = mac }

-- a hop field with its MAC for an identifier
abbrev pub beaconed : ℕ → ℕ → ℕ → HopField
beaconed beta ingress egress = hop_with ingress egress (mac6 example_key beta info_along (hop_with ingress egress []))

abbrev pub beta_0 : ℕ
beta_0 = 0x1234

abbrev pub hop_0 : HopField
hop_0 = beaconed beta_0 0 17

abbrev pub beta_1 : ℕ
beta_1 = chain beta_0 hop_0.mac

abbrev pub hop_1 : HopField
hop_1 = beaconed beta_1 1 2

abbrev pub beta_2 : ℕ
beta_2 = chain beta_1 hop_1.mac

abbrev pub hop_2 : HopField
hop_2 = beaconed beta_2 18 0

abbrev pub beta_3 : ℕ
beta_3 = chain beta_2 hop_2.mac

abbrev pub domain : ℕ → Domain
domain number = record { isd = 1; autonomous_system = number }
