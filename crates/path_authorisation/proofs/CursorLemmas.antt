-- How far the cursor of a packet moves: each link that it crosses takes it to a later hop.
use Rattle.std.proofs.Common.{◌≡◌, ◌≤◌, ◌<◌, ◌+◌, ◌&&◌, not, ℕ, Bool, true, false, List, length, Option, Some, None, refl, ap, arith, if◌then◌else◌}
use Rattle.std.proofs.lemmas.Bool.{eqb-true}
use Rattle.std.proofs.lemmas.Bool.Decides.{Decides-ltb}
use Rattle.std.proofs.lemmas.List.Sums.{sum_by_more}
use Rattle.field_rows.specs.Place.{IsBytes}
use Rattle.path_fields.specs.InPlace.{with_segment_id}
use Rattle.scion_packet.specs.Packet.{Packet, first_fault, packet_of, path_bytes}
use Rattle.scion_packet.specs.Path.{Place, Segment, current_hop, hop_number, hops_in, place_at}
use Rattle.scion_packet.specs.Places as places
use Rattle.scion_packet.specs.Places.{no_segment}
use Rattle.scion_packet.proofs.Offsets.{hops_in_is}
use Rattle.scion_packet.proofs.PacketLaws.{both_pass}
use Rattle.scion_packet.proofs.Parts.{path_are}
use Rattle.scion_packet.proofs.PathSpelled.{current_number}
use Rattle.process_packet.specs.declared.decision.Decision.TheVariants as decision
use Rattle.process_packet.specs.declared.underlay.Underlay.{Underlay}
use Rattle.process_packet.specs.Decide.{scion_decide, scion_moved, verdict}
use Rattle.process_packet.specs.Laws.{IsAuthorised}
use Rattle.process_packet.specs.Network.{Network}
use Rattle.process_packet.specs.PacketState.{PacketState, arrives, chained_id, is_along, is_external, next_segment}
use Rattle.process_packet.specs.Shown.{StandsToLeave, sent_along, turned}
use Rattle.process_packet.specs.Ways.{IsSentBy}
use Rattle.process_packet.specs.WhatLeaves.{LeavesWhole}
use Rattle.process_packet.proofs.AlikeLemmas.{alike_set, alike_with}
use Rattle.process_packet.proofs.LawLemmas.{came_in, told}
use Rattle.process_packet.proofs.LawfulLemmas.{IsOnPath, lawful_exit}
use Rattle.process_packet.proofs.PassingLemmas.{both_true}
use Rattle.process_packet.proofs.WaysLemmas.{sent_by}
use Rattle.process_packet.proofs.WhatLeavesLemmas.{leaves_whole}
use Rattle.path_authorisation.specs.Links.{crossed}

-- the number of the hop at the cursor
abbrev pub cursor_at : List ℕ → ℕ
cursor_at bytes = hop_number (packet_of bytes).path.segments (packet_of bytes).path.place

pub cursor_below : (bytes : List ℕ) → IsBytes bytes → first_fault bytes ≡ None → cursor_at bytes < 64
cursor_below bytes are sound =
    let number : cursor_at bytes ≡ current_hop (path_bytes bytes) = current_number (path_bytes bytes) (path_are bytes are) (both_pass bytes sound).1 in omega arith

-- the next hop is the one after
over_next : (b : Bool) (ss : List Segment) (at : Place) → at.segment < length ss → places.is_last_of_segment ss at ≡ b
    → hop_number ss (if b then next_segment at else place_at at.segment (at.position + 1)) ≡ hop_number ss at + 1
over_next true ss at there last =
    let ends : at.position + 1 ≡ hops_in ss at.segment = eqb-true (at.position + 1) (hops_in ss at.segment) last in
    let more = sum_by_more (λ (s : Segment). length s.hops) ss at.segment no_segment there in
    let size = hops_in_is ss at.segment in
    omega arith
over_next false ss at there still = omega arith

number_turned : (b : Bool) (ss : List Segment) (k id : ℕ) (at : Place) → hop_number (if b then with_segment_id ss k id else ss) at ≡ hop_number ss at
number_turned true ss k id at = (alike_set ss k id).number at
number_turned false ss k id at = refl

-- the hop by which it leaves is that by which it came, or a later one
exit_later : {t u : PacketState} → StandsToLeave t u → hop_number t.path.segments t.path.place ≤ hop_number u.path.segments u.path.place
exit_later {t} (StandsToLeave.stays still) = omega arith
exit_later {t} (StandsToLeave.changes_over ends unexpired authentic) =
    let at : Place = t.path.place in
    let both = both_true (places.is_last_of_segment t.path.segments at) (places.is_followed t.path.segments at) ends in
    let there : at.segment + 1 < length t.path.segments = (Decides-ltb (at.segment + 1) (length t.path.segments)).0 both.1 in
    let next = over_next true t.path.segments at (omega arith) both.0 in
    omega arith

module _ (n : Network) (link : ℕ) (source : Underlay) (moment : ℕ) (bytes : List ℕ) (out : ℕ) (to : Option Underlay) (are : IsBytes bytes)
    (says : scion_decide n link source moment bytes ≡ decision.Send out to) where
  abbrev s : PacketState
  s = arrives n link source moment bytes

  pub whole : LeavesWhole (verdict n link source moment bytes) out to bytes (scion_moved n link source moment bytes)
  whole = leaves_whole n link source moment bytes out to are says

  pub is : IsAuthorised s
  is = (came_in s out to whole.packet (told n link source moment bytes out to whole.packet whole.verdict)).authorised

  pub way : IsSentBy s out to whole.packet
  way = sent_by n link source moment bytes out to whole.packet whole.verdict

  turned_number : hop_number (turned s).path.segments s.path.place ≡ cursor_at bytes
  turned_number = number_turned (is_external s && not (is_along s)) s.path.segments s.path.place.segment (chained_id s) s.path.place

  farther_by : (p : Packet) → IsSentBy s out to p → cursor_at bytes + crossed to ≤ hop_number p.path.segments p.path.place
  farther_by p (IsSentBy.to_host way) =
      let none : crossed to ≡ 0 = ap crossed way.host.to_is in
      let same : hop_number (turned s).path.segments s.path.place ≡ hop_number p.path.segments p.path.place = ap (λ (q : Packet). hop_number q.path.segments q.path.place) way.packet in
      omega (arith, turned_number)
  farther_by p (IsSentBy.by_sibling u way) =
      let none : crossed (Some way.at) ≡ crossed to = ap crossed way.address in
      let same : hop_number u.path.segments u.path.place ≡ hop_number p.path.segments p.path.place = ap (λ (q : Packet). hop_number q.path.segments q.path.place) way.packet in
      let later = exit_later way.leaves in
      omega (arith, turned_number)
  farther_by p (IsSentBy.by_link u way) =
      let ss : List Segment = u.path.segments in
      let at : Place = u.path.place in
      let last = places.is_last_of_segment ss at in
      let next : Place = if last then next_segment at else place_at at.segment (at.position + 1) in
      let one : crossed None ≡ crossed to = ap crossed way.address in
      let same : hop_number (sent_along u).path.segments (sent_along u).path.place ≡ hop_number p.path.segments p.path.place = ap (λ (q : Packet). hop_number q.path.segments q.path.place) way.packet in
      let on : IsOnPath ss at = lawful_exit n link source moment bytes are is.sound u way.leaves in
      let alike : hop_number (sent_along u).path.segments next ≡ hop_number ss next = (alike_with (if is_along u then Some (chained_id u) else None) at.segment ss).number next in
      let further : hop_number ss next ≡ hop_number ss at + 1 = over_next last ss at on.there refl in
      let later = exit_later way.leaves in
      omega (arith, turned_number)

  pub farther : cursor_at bytes + crossed to ≤ cursor_at (scion_moved n link source moment bytes)
  farther =
      let by = farther_by whole.packet way in
      let read : cursor_at (scion_moved n link source moment bytes) ≡ hop_number whole.packet.path.segments whole.packet.path.place =
      ap (λ (q : Packet). hop_number q.path.segments q.path.place) whole.read in
      omega arith

  pub left_below : cursor_at (scion_moved n link source moment bytes) < 64
  left_below = cursor_below (scion_moved n link source moment bytes) whole.are whole.sound
