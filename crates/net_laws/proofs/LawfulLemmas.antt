-- A lawful start sets out on its route.
use Rattle.std.proofs.Common.{◌≡◌, ◌≤◌, ◌<◌, ◌-◌, ℕ, Bool, true, false, List, length, refl, sym, ap, ap₂, subst, ◌∙◌, arith, inl, inr, if◌then◌else◌}
use Rattle.scion_packet.specs.Path.{HopField, Place, Segment, count_hops, hops_in, place_at}
use Rattle.scion_packet.specs.Packet.{Packet, Spells, packet_of, spelling}
use Rattle.scion_packet.specs.Places.{hop_there, info_there}
use Rattle.scion_packet.proofs.PacketLaws.{packet_only, packet_passes}
use Rattle.process_packet.proofs.LawfulLemmas.{IsOnPath, macs_are_bytes}
use Rattle.field_rows.specs.Place.{IsBytes}
use Rattle.net_laws.specs.Stretch.{beta_met}
use Rattle.net_laws.specs.PathSegments.{HaveByteMacs, IsMet, PathSegment, entry_at, met, part, route_over, segments_of, stretch_of}
use Rattle.net_laws.specs.LawfulStart.{AsksNothing, SetsOutOn, last_met}
use Rattle.net_laws.specs.Net.{Agrees, Net, router_at}
use Rattle.net_laws.specs.Configured.{AreNumbered}
use Rattle.net_laws.specs.Route.{Crosses, IsOn, IsRoute, Route, after, end_of, info_of}
use Rattle.net_laws.specs.Stands.{PacketAt, IsHostOf, IsUnasked, hops_at, with_id_of}
use Rattle.net_laws.specs.Start.{SetsOut, outset}
use Rattle.net_laws.proofs.HopsLemmas.{hop_is, info_is, is_met, is_on, part_len, parts}
use Rattle.net_laws.proofs.HopsRoute.{below, is_route}

-- the position of a position's number is the number again
twice : (b : Bool) (j n : ℕ) → j < n → (if b then (if b then j else n - 1 - j) else n - 1 - (if b then j else n - 1 - j)) ≡ j
twice true j n inside = refl
twice false j n inside = omega arith

module _ (net : Net) (ss : List PathSegment) (moment : ℕ) (a : PacketAt) (agrees : Agrees net) (numbered : AreNumbered net) (are : IsBytes (spelling a.packet))
    (s : SetsOutOn net ss moment a) where
  abbrev w : Route
  w = route_over ss

  -- each hop field is one of the datagram, whose MACs are bytes
  byte_macs : HaveByteMacs ss
  byte_macs k j there inside =
      let p = part ss k in
      let b = p.info.along in
      let i : ℕ = if b then j else length p.made - 1 - j in
      let at : Place = place_at k i in
      let met_there : IsMet ss at = record { segment = there; position = below b j (length p.made) inside } in
      let on : IsOn w at = is_on ss at met_there in
      let text : Spells (spelling a.packet) a.packet = record { lawful = s.lawful; text = refl } in
      let read : a.packet ≡ packet_of (spelling a.packet) = packet_only (spelling a.packet) a.packet text in
      let same : segments_of ss ≡ (packet_of (spelling a.packet)).path.segments = sym s.segments ∙ ap (λ (q : Packet). q.path.segments) read in
      let on_path : IsOnPath (segments_of ss) at = record { there = on.segment; inside = on.position } in
      let mac = macs_are_bytes (spelling a.packet) are (packet_passes (spelling a.packet) a.packet text) at (subst (λ (ts : List Segment). IsOnPath ts at) same on_path) in
      let here : IsBytes (hop_there (segments_of ss) at).mac = subst (λ (ts : List Segment). IsBytes (hop_there ts at).mac) (sym same) mac in
      let met_mac : IsBytes (met ss at).field.mac = subst (λ (h : HopField). IsBytes h.mac) (hop_is ss at met_there) here in
      subst (λ (n : ℕ). IsBytes (entry_at p n).field.mac) (twice b j (length p.made) inside) met_mac

  pub its_route : IsRoute net w moment
  its_route = is_route net ss moment agrees numbered byte_macs s.path s.unexpired (subst (λ (ts : List Segment). count_hops ts ≤ 64) s.segments s.lawful.path.hops)

  on_first : IsOn w (after outset)
  on_first =
      let some = s.path.some in
      let two = (s.path.beaconed 0 (omega arith)).two in
      is_on ss (after outset) (record { segment = omega arith; position = omega arith })

  pub end_is : end_of w ≡ last_met ss
  end_is =
      let n = parts ss in
      let k = length ss - 1 in
      let first : length (segments_of ss) - 1 ≡ k = omega arith in
      ap₂ (λ (i n : ℕ). place_at i (n - 1)) first (ap (hops_in (segments_of ss)) first ∙ part_len ss k)

  ids : (p : Place) → p.segment < length w.segments → info_there a.packet.path.segments p ≡ with_id_of (w.beta (place_at p.segment 0)) (info_of w p)
  ids p there =
      let n = parts ss in
      let i = info_is ss p in
      let same : (part ss p.segment).info ≡ with_id_of (beta_met (stretch_of (part ss p.segment)) 0) (part ss p.segment).info =
      ap (λ (b : ℕ). with_id_of b (part ss p.segment).info) (s.identifiers p.segment (omega arith)) in
      ap (λ (ts : List Segment). info_there ts p) s.segments ∙ i ∙ same ∙ ap (with_id_of (beta_met (stretch_of (part ss p.segment)) 0)) (sym i)

  pub sets_out : SetsOut net w a
  sets_out =
      let c : Crosses net w outset (after outset) = its_route.crosses outset on_first in
      record {
        link = s.link;
        router = s.router;
        here = c.near;
        here_is = ap (router_at net) s.router ∙ c.near_there;
        home = c.near_home;
        place = s.cursor;
        count = ap length s.segments;
        hops = λ k. ap (λ (ts : List Segment). hops_at ts k) s.segments;
        ids = ids;
        way = record {
          lawful = s.lawful;
          short = s.short;
          whole = s.whole;
          addressed = record {
            goes_on = on_first;
            source = s.source;
            destination = subst (λ (p : Place). IsHostOf a.packet.header.destination (w.home p)) (sym end_is) s.destination;
          };
        };
      }

  pub unasked : AsksNothing ss a.packet → IsUnasked w a.packet
  unasked quiet at on flag = elim quiet [
    | inr none ↦ none
    | inl clear ↦
        let there = is_met ss at on in
        let h = hop_is ss at there in
        elim flag [
          | inl one ↦ let never : true ≡ false = sym one ∙ ap (λ (x : HopField). x.ingress_alert) h ∙ (clear at there).0 in absurd cc
          | inr other ↦ let never : true ≡ false = sym other ∙ ap (λ (x : HopField). x.egress_alert) h ∙ (clear at there).1 in absurd cc
        ]
  ]
