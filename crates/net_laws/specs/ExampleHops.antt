-- The example's path by its AS entries: one segment along, and the same one against.
use Rattle.std.specs.Prelude.{ℕ, false, List, [], ◌∷◌}
use Rattle.scion_packet.specs.Packet.{Packet}
use Rattle.scion_packet.specs.Path.{HopField, InfoField, place_at}
use Rattle.process_packet.specs.declared.underlay.Ip.TheVariants.{V4}
use Rattle.net_laws.specs.Example.{beta_0, beta_2, domain, example_key, hop_0, hop_1, hop_2, info_along}
use Rattle.net_laws.specs.PathSegments.{AsEntry, PathSegment, segments_of}
use Rattle.net_laws.specs.Stands.{PacketAt}

abbrev pub entry_of_as : ℕ → ℕ → HopField → AsEntry
entry_of_as number router field = record { home = domain number; key = example_key; field = field; taken_by = router; sent_by = router }

abbrev pub example_hops : List AsEntry
example_hops =
    entry_of_as 0xff0000000111 0 hop_0 ∷ entry_of_as 0xff0000000110 1 hop_1 ∷ entry_of_as 0xff0000000112 2 hop_2 ∷ []

abbrev pub example_stretch : PathSegment
example_stretch = record { info = info_along; beta = beta_0; is_core = false; made = example_hops }

-- travelled against, from the last AS to the first: it sets out with the last hop's identifier
abbrev pub info_against : InfoField
info_against = record { reserved_flags = 0; along = false; reserved = 0; segment_id = beta_2; timestamp = 1694498816 }

abbrev pub example_against : PathSegment
example_against = record { info = info_against; beta = beta_0; is_core = false; made = example_hops }

abbrev pub example_path : List PathSegment
example_path = example_stretch ∷ []

-- from 1-ff00:0:111, 10.1.0.5 to 1-ff00:0:112, 10.2.0.7, at the first hop
abbrev pub example_packet : Packet
example_packet = record {
  header = record {
    traffic_class = 0;
    flow_id = 1;
    next_header = 17;
    header_length = 21;
    payload_length = 8;
    path_type = 1;
    reserved = 0;
    destination = record { isd = 1; autonomous_system = 0xff0000000112; kind = 0; host = 10 ∷ 2 ∷ 0 ∷ 7 ∷ [] };
    source = record { isd = 1; autonomous_system = 0xff0000000111; kind = 0; host = 10 ∷ 1 ∷ 0 ∷ 5 ∷ [] };
  };
  path = record { reserved = 0; place = place_at 0 0; segments = segments_of example_path };
  payload = 0x75 ∷ 0x59 ∷ 0x75 ∷ 0x59 ∷ 0x00 ∷ 0x08 ∷ 0x00 ∷ 0x00 ∷ [];
}

-- as its host hands it to the first AS's router
abbrev pub example_start : PacketAt
example_start = record { router = 0; link = 0; source = record { ip = V4 (10 ∷ 1 ∷ 0 ∷ 5 ∷ []); port = 30041 }; packet = example_packet }
