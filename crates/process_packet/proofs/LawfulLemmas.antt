-- A packet that is sent is a lawful one, as long as the one that came.
use Rattle.std.proofs.Common.{◌≡◌, ◌⊎◌, ◌<◌, ◌+◌, ◌^◌, ◌&&◌, not, ℕ, zero, suc, Bool, true, false, List, [], ◌∷◌, length, Option, Some, None, refl, sym, ap, subst, ◌∙◌, arith, if◌then◌else◌, inl, inr}
use Rattle.std.specs.List.{AllByRecursion}
use Rattle.std.proofs.lemmas.Bool.{cases_lt}
use Rattle.std.proofs.lemmas.Bool.Decides.{Decides-eqb, Decides-ltb}
use Rattle.std.proofs.lemmas.Nat.{xor_of_16}
use Rattle.field_rows.specs.Place.{IsBytes, number_at}
use Rattle.path_fields.specs.InPlace.{with_segment_id}
use Rattle.scion_packet.specs.Laws.{FieldsStand}
use Rattle.scion_packet.specs.Lengths.{first_hop, hop_place, segment_count}
use Rattle.scion_packet.specs.Packet.{IsPacket, Packet, Spells, first_fault, packet_of, path_bytes}
use Rattle.scion_packet.specs.Path.{HopField, IsPath, IsSegment, PathFields, Place, Segment, hops_in, lengths_of}
use Rattle.scion_packet.specs.Places as places
use Rattle.scion_packet.specs.Places.{hop_there, info_there}
use Rattle.scion_packet.proofs.Fields.{number-lt}
use Rattle.scion_packet.proofs.Offsets.{fields_stand}
use Rattle.scion_packet.proofs.PacketLaws.{both_pass, packet_spelled, part-are}
use Rattle.scion_packet.proofs.Parts.{path_are}
use Rattle.process_packet.specs.declared.underlay.Underlay.{Underlay}
use Rattle.process_packet.specs.Network.{Network}
use Rattle.process_packet.specs.Shown.{StandsToLeave, sent_along, turned}
use Rattle.process_packet.specs.PacketView.{IsAlike, with_id}
use Rattle.process_packet.specs.PacketState.{PacketState, arrives, chained_id, is_along, is_external, is_followed, is_last_of_path, is_last_of_segment, next_place, next_segment, packet}
use Rattle.process_packet.specs.Ways.{IsSentBy}
use Rattle.process_packet.proofs.AlikeLemmas.{alike_same, alike_set}
use Rattle.process_packet.proofs.KeptLemmas.{IsKept, out_kept, place_kept, turned_kept}
use Rattle.process_packet.proofs.PassingLemmas.{and_not, both_true}

-- ---- places of a path

pub record IsOnPath (ss : List Segment) (at : Place) : Type 0 where
  pub there : at.segment < length ss
  pub inside : at.position < hops_in ss at.segment

-- a segment with a hop is there
is_there : (ss : List Segment) (k i : ℕ) → i < hops_in ss k → k < length ss
is_there [] k i inside = omega arith
is_there (s ∷ ss) zero i inside = omega arith
is_there (s ∷ ss) (suc k) i inside = let less = is_there ss k i inside in omega arith

pub some_hop : (ss : List Segment) (k : ℕ) → AllByRecursion IsSegment ss → k < length ss → 0 < hops_in ss k
some_hop [] k all there = absurd (omega arith)
some_hop (s ∷ ss) zero all there = let some = all.0.some in omega arith
some_hop (s ∷ ss) (suc k) all there = some_hop ss k all.1 (omega arith)

pub is_on : (p : PathFields) → IsPath p → IsOnPath p.segments p.place
is_on p lawful = record { there = is_there p.segments p.place.segment p.place.position lawful.inside; inside = lawful.inside }

next_by : (b : Bool) (ss : List Segment) (at : Place) → AllByRecursion IsSegment ss → IsOnPath ss at → places.is_last_of_segment ss at ≡ b → places.is_last_of_path ss at ≡ false
    → IsOnPath ss (if b then next_segment at else record { segment = at.segment; position = at.position + 1 })
next_by true ss at all on last more =
    let there : at.segment + 1 < length ss = (Decides-ltb (at.segment + 1) (length ss)).0 (and_not (places.is_last_of_segment ss at) (places.is_followed ss at) more last) in
    record { there = there; inside = some_hop ss (at.segment + 1) all there }
next_by false ss at all on still more =
    let inside = on.inside in
    elim (cases_lt (at.position + 1) (hops_in ss at.segment)) [
      | inl below ↦ record { there = on.there; inside = below }
      | inr above ↦
          let same : at.position + 1 ≡ hops_in ss at.segment = omega arith in
          let last : places.is_last_of_segment ss at ≡ true = (Decides-eqb (at.position + 1) (hops_in ss at.segment)).1 same in
          absurd cc
    ]

pub next_on : (ss : List Segment) (at : Place) → AllByRecursion IsSegment ss → IsOnPath ss at → places.is_last_of_path ss at ≡ false → IsOnPath ss (next_place ss at)
next_on ss at all on more = next_by (places.is_last_of_segment ss at) ss at all on refl more

-- ---- identifiers have two bytes

id_fits : (ss : List Segment) (k i : ℕ) → AllByRecursion IsSegment ss → (info_there ss (record { segment = k; position = i })).segment_id < 2 ^ 16
id_fits [] k i all = omega arith
id_fits (s ∷ ss) zero i all = all.0.info.1.1.0.0
id_fits (s ∷ ss) (suc k) i all = id_fits ss k i all.1

-- the MAC of each hop field of a datagram is bytes
pub macs_are_bytes : (bytes : List ℕ) → IsBytes bytes → first_fault bytes ≡ None → (at : Place) → IsOnPath (packet_of bytes).path.segments at
    → IsBytes (hop_there (packet_of bytes).path.segments at).mac
macs_are_bytes bytes are sound at on =
    let path = path_bytes bytes in
    let stand : FieldsStand path = fields_stand path (path_are bytes are) (both_pass bytes sound).1 in
    let count = stand.count in
    let there = on.there in
    let inside = on.inside in
    let few : at.segment < segment_count (lengths_of path) = omega arith in
    let size = stand.hops at.segment few in
    let place = hop_place (lengths_of path) (first_hop (lengths_of path) at.segment + at.position) in
    subst (λ (h : HopField). IsBytes h.mac) (sym (stand.hop at.segment at.position few (omega arith))) (part-are path (place + 6) 6 (path_are bytes are))

-- ---- from where it arrives to where it leaves

-- the packet at the hop by which it leaves
pub record StandsAtExit (t u : PacketState) : Type 0 where
  pub kept : IsKept (packet t) (packet u)
  pub segments : u.path.segments ≡ t.path.segments
  pub near : (u.path.place.segment ≡ t.path.place.segment) ⊎ (u.path.place.segment ≡ t.path.place.segment + 1)
  pub header : u.header ≡ t.header
  pub payload : u.payload ≡ t.payload
  pub reserved : u.path.reserved ≡ t.path.reserved

pub at_exit : {t u : PacketState} → IsPacket (packet t) → StandsToLeave t u → StandsAtExit t u
at_exit {t} lawful (StandsToLeave.stays still) =
    record { kept = record { lawful = lawful; length = refl }; segments = refl; near = inl refl; header = refl; payload = refl; reserved = refl }
at_exit {t} lawful (StandsToLeave.changes_over ends unexpired authentic) =
    let both = both_true (is_last_of_segment t) (is_followed t) ends in
    let there : t.path.place.segment + 1 < length t.path.segments = (Decides-ltb (t.path.place.segment + 1) (length t.path.segments)).0 both.1 in
    record {
      kept = place_kept (packet t) (next_segment t.path.place) there (some_hop t.path.segments (t.path.place.segment + 1) lawful.path.segments there) lawful;
      segments = refl;
      near = inr refl;
      header = refl;
      payload = refl;
      reserved = refl;
    }

alike_if : (b : Bool) (ss : List Segment) (k id : ℕ) → IsAlike k ss (if b then with_segment_id ss k id else ss)
alike_if true ss k id = alike_set ss k id
alike_if false ss k id = alike_same ss k

ids_if : (b : Bool) (ss : List Segment) (k id : ℕ) → (if b then with_segment_id ss k id else ss) ≡ with_id (if b then Some id else None) k ss
ids_if true ss k id = refl
ids_if false ss k id = refl

-- What is sent is what came, but for its place and the identifiers of two segments.
pub record IsMovedFrom (s : PacketState) (p : Packet) : Type 0 where
  pub kept : IsKept (packet s) p
  pub header : p.header ≡ s.header
  pub payload : p.payload ≡ s.payload
  pub first : Option ℕ
  pub second : Option ℕ
  pub exit : ℕ
  pub near : (exit ≡ s.path.place.segment) ⊎ (exit ≡ s.path.place.segment + 1)
  pub there : exit < length s.path.segments
  pub path : record { reserved = s.path.reserved; place = p.path.place; segments = with_id second exit (with_id first s.path.place.segment s.path.segments) } ≡ p.path

module _ (n : Network) (from : ℕ) (source : Underlay) (moment : ℕ) (bytes : List ℕ) (are : IsBytes bytes) (sound : first_fault bytes ≡ None) where
  abbrev s : PacketState
  s = arrives n from source moment bytes

  abbrev t : PacketState
  t = turned s

  abbrev against : Bool
  against = is_external s && not (is_along s)

  pub spelled : Spells bytes (packet s)
  spelled = packet_spelled bytes are sound

  -- the identifier chained at any place of the path, with other identifiers of two bytes
  chain_fits : (v : PacketState) (k : ℕ) → IsPath v.path → IsAlike k s.path.segments v.path.segments → chained_id v < 2 ^ 16
  chain_fits v k lawful alike =
      let at = v.path.place in
      let on = is_on v.path lawful in
      let there = on.there in
      let inside = on.inside in
      let count = alike.count in
      let size = alike.hops at.segment in
      let before : IsOnPath s.path.segments at = record { there = omega arith; inside = omega arith } in
      let mac : IsBytes (hop_there v.path.segments at).mac = subst (λ (h : HopField). IsBytes h.mac) (sym (alike.hop at)) (macs_are_bytes bytes are sound at before) in
      let two : number_at (hop_there v.path.segments at).mac 0 2 < 256 ^ 2 = number-lt (hop_there v.path.segments at).mac 0 2 mac in
      xor_of_16 (info_there v.path.segments at).segment_id (number_at (hop_there v.path.segments at).mac 0 2) (id_fits v.path.segments at.segment at.position lawful.segments) (omega arith)

  kept_turned : IsKept (packet s) (packet t)
  kept_turned =
      let k = s.path.place.segment in
      turned_kept (packet s) against (chained_id s) (λ is. chain_fits s k spelled.lawful.path (alike_same s.path.segments k)) spelled.lawful

  alike_turned : IsAlike s.path.place.segment s.path.segments t.path.segments
  alike_turned = alike_if against s.path.segments s.path.place.segment (chained_id s)

  abbrev first : Option ℕ
  first = if against then Some (chained_id s) else None

  abbrev once : List Segment
  once = with_id first s.path.place.segment s.path.segments

  is_once : t.path.segments ≡ once
  is_once = ids_if against s.path.segments s.path.place.segment (chained_id s)

  stood : IsMovedFrom s (packet t)
  stood =
      let on = is_on s.path spelled.lawful.path in
      record {
        kept = kept_turned;
        header = refl;
        payload = refl;
        first = first;
        second = None;
        exit = s.path.place.segment;
        near = inl refl;
        there = on.there;
        path = ap (λ (ss : List Segment). record { reserved = s.path.reserved; place = s.path.place; segments = ss }) (sym is_once);
      }

  taken_over : (u : PacketState) → StandsAtExit t u → IsMovedFrom s (packet u)
  taken_over u exit =
      let on = is_on s.path spelled.lawful.path in
      let same : once ≡ u.path.segments = sym (exit.segments ∙ is_once) in
      record {
        kept = record { lawful = exit.kept.lawful; length = exit.kept.length ∙ kept_turned.length };
        header = exit.header;
        payload = exit.payload;
        first = first;
        second = None;
        exit = s.path.place.segment;
        near = inl refl;
        there = on.there;
        path = ap (λ (ss : List Segment). record { reserved = s.path.reserved; place = u.path.place; segments = ss }) same
            ∙ ap (λ (r : ℕ). record { reserved = r; place = u.path.place; segments = u.path.segments }) (sym exit.reserved);
      }

  left_by_link : (u : PacketState) → StandsAtExit t u → is_last_of_path u ≡ false → IsMovedFrom s (sent_along u)
  left_by_link u exit more =
      let lawful = exit.kept.lawful in
      let alike : IsAlike s.path.place.segment s.path.segments u.path.segments = subst (λ (ss : List Segment). IsAlike s.path.place.segment s.path.segments ss) (sym exit.segments) alike_turned in
      let on = is_on u.path lawful.path in
      let count = alike.count in
      let there = on.there in
      let at = next_place u.path.segments u.path.place in
      let next : IsOnPath u.path.segments at = next_on u.path.segments u.path.place lawful.path.segments on more in
      let kept : IsKept (packet u) (sent_along u) =
      out_kept (packet u) (is_along u) (chained_id u) at (λ along. chain_fits u s.path.place.segment lawful.path alike) next.there next.inside lawful in
      let k = u.path.place.segment in
      let second = if is_along u then Some (chained_id u) else None in
      let same : once ≡ u.path.segments = sym (exit.segments ∙ is_once) in
      record {
        kept = record { lawful = kept.lawful; length = kept.length ∙ exit.kept.length ∙ kept_turned.length };
        header = exit.header;
        payload = exit.payload;
        first = first;
        second = second;
        exit = k;
        near = exit.near;
        there = omega arith;
        path = ap (λ (ss : List Segment). record { reserved = s.path.reserved; place = at; segments = with_id second k ss }) same
            ∙ ap (λ (r : ℕ). record { reserved = r; place = at; segments = with_id second k u.path.segments }) (sym exit.reserved);
      }

  pub moved_from : (out : ℕ) (to : Option Underlay) (p : Packet) → IsSentBy s out to p → IsMovedFrom s p
  moved_from out to p (IsSentBy.to_host way) = subst (λ (q : Packet). IsMovedFrom s q) way.packet stood
  moved_from out to p (IsSentBy.by_link u way) = subst (λ (q : Packet). IsMovedFrom s q) way.packet (left_by_link u (at_exit kept_turned.lawful way.leaves) way.more)
  moved_from out to p (IsSentBy.by_sibling u way) = subst (λ (q : Packet). IsMovedFrom s q) way.packet (taken_over u (at_exit kept_turned.lawful way.leaves))

  -- where it leaves, it stands at a hop of its path
  pub lawful_exit : (u : PacketState) → StandsToLeave t u → IsOnPath u.path.segments u.path.place
  lawful_exit u leaves = is_on u.path (at_exit kept_turned.lawful leaves).kept.lawful.path
