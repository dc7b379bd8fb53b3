-- The hop field accepted next is chained to the one accepted before.
use Rattle.process_packet.proofs.KindLemmas.{decided_as_scion, has_scion_path, other_kind}
use Rattle.process_packet.specs.OneHopLaws.{IsDecidedAsScion}
use Rattle.scion_packet.specs.Header.{one_hop_path}
use Rattle.std.proofs.Common.{◌≡◌, ◌≢◌, ◌<◌, ◌+◌, ◌==◌, ◌&&◌, not, ℕ, Bool, true, false, List, length, Option, Some, None, refl, sym, ap, ap₂, subst, ◌∙◌, if◌then◌else◌, slice_index}
use Rattle.std.specs.Prelude.{bit_xor}
use Rattle.std.specs.Int.Bits.{xor_assoc, xor_self}
use Rattle.std.proofs.lemmas.Bool.{ne_eqb}
use Rattle.std.proofs.lemmas.Nat.{xor_comm}
use Rattle.field_rows.specs.Place.{IsBytes, number_at}
use Rattle.hop_check.specs.Mac.{chain}
use Rattle.path_fields.specs.InPlace.{with_segment_id}
use Rattle.scion_packet.specs.Packet.{Packet, packet_of, first_fault}
use Rattle.scion_packet.specs.Path.{HopField, InfoField, Place, Segment, place_at}
use Rattle.scion_packet.specs.Places.{hop_there, info_there}
use Rattle.process_packet.specs.declared.decision.Decision.TheVariants as decision
use Rattle.process_packet.specs.declared.underlay.Underlay.{Underlay}
use Rattle.process_packet.specs.Chaining.{FollowsOn, IsSameHop, NoHopIsSplicedIn, at_entry, at_exit, with_identifier}
use Rattle.process_packet.specs.Decide.{decide, decision_of, moved, scion_decide, scion_moved, verdict}
use Rattle.process_packet.specs.Laws.{IsAuthorised}
use Rattle.process_packet.specs.Network.{Network, is_local}
use Rattle.process_packet.specs.Rows.{Answered, Dropped, Sent, Verdict}
use Rattle.process_packet.specs.Shown.{StandsToLeave, packet_at, sent_along, turned}
use Rattle.process_packet.specs.PacketView.{IsAlike, with_id}
use Rattle.process_packet.specs.PacketState.{PacketState, arrives, chained, chained_id, changed_over, is_along, is_authentic, is_external, is_last_of_segment, next_segment, packet, past_switch, turned_back}
use Rattle.process_packet.specs.Ways.{IsSentBy}
use Rattle.process_packet.specs.WhatLeaves.{LeavesWhole}
use Rattle.process_packet.proofs.AlikeLemmas.{alike_set, info_set}
use Rattle.process_packet.proofs.ConditionLemmas.{authentic_here}
use Rattle.process_packet.proofs.LawLemmas.{came_in, told}
use Rattle.process_packet.proofs.LawfulLemmas.{IsOnPath, lawful_exit}
use Rattle.process_packet.proofs.RowsPassed.{turned_is}
use Rattle.process_packet.proofs.WaysLemmas.{sent_by}
use Rattle.process_packet.proofs.WhatLeavesLemmas.{leaves_whole}

xor_back : (a b : ℕ) → bit_xor (bit_xor a b) b ≡ a
xor_back a b = xor_assoc a b b ∙ ap (λ (n : ℕ). bit_xor a n) (xor_self b) ∙ xor_comm a 0

-- an identifier chained twice by one MAC is the same again
pub chain_back : (beta : ℕ) (mac : List ℕ) → chain (chain beta mac) mac ≡ beta
chain_back beta mac = xor_back beta (number_at mac 0 2)

-- a packet as it comes to a router
abbrev comes : Network → ℕ → Underlay → ℕ → List ℕ → Packet → PacketState
comes m link source moment bytes p = record {
  network = m;
  link = link;
  source = source;
  moment = moment;
  bytes = bytes;
  header = p.header;
  path = p.path;
  payload = p.payload;
  switched = false;
}

-- ---- one hop farther

module _ (m : Network) (link : ℕ) (source : Underlay) (moment : ℕ) (bytes : List ℕ) (u : PacketState) (external : link ≢ 0) (accepted : is_authentic u ≡ true)
    (there : u.path.place.segment < length u.path.segments) where
  abbrev ss : List Segment
  ss = u.path.segments

  abbrev k : ℕ
  k = u.path.place.segment

  abbrev to : Place
  to = place_at k (u.path.place.position + 1)

  abbrev came : Bool → PacketState
  came b = comes m link source moment bytes (packet_at u to (with_id (if b then Some (chained_id u) else None) k ss))

  outside : not (link == 0) ≡ true
  outside = ap not (ne_eqb link 0 external)

  follows_along : is_along u ≡ true → is_authentic (turned_back (came true)) ≡ true → FollowsOn u (turned_back (came true))
  follows_along along verified =
      let v : PacketState = came true in
      let set : info_there (with_segment_id ss k (chained_id u)) to ≡ with_identifier (chained_id u) (info_there ss to) = info_set ss k (chained_id u) (u.path.place.position + 1) there in
      let forward : is_along v ≡ true = ap (λ (i : InfoField). i.along) set ∙ along in
      let stays : turned_back v ≡ v = ap₂ (λ (a b : Bool). if a && not b then chained v else v) outside forward in
      let alike : IsAlike k ss (with_segment_id ss k (chained_id u)) = alike_set ss k (chained_id u) in
      subst (λ (w : PacketState). FollowsOn u w) (sym stays) (record {
        place = refl;
        hop_is = alike.hop to;
        accepted = accepted;
        verified = subst (λ (w : PacketState). is_authentic w ≡ true) stays verified;
        along = λ e. set;
        against = λ e. absurd cc;
      })

  follows_against : is_along u ≡ false → is_authentic (turned_back (came false)) ≡ true → FollowsOn u (turned_back (came false))
  follows_against against verified =
      let w : PacketState = came false in
      let back : turned_back w ≡ chained w = ap₂ (λ (a b : Bool). if a && not b then chained w else w) outside against in
      let id = chained_id w in
      let mac = (hop_there ss to).mac in
      let set : info_there (with_segment_id ss k id) to ≡ with_identifier id (info_there ss to) = info_set ss k id (u.path.place.position + 1) there in
      let alike : IsAlike k ss (with_segment_id ss k id) = alike_set ss k id in
      let same : hop_there (with_segment_id ss k id) to ≡ hop_there ss to = alike.hop to in
      let again : chain (info_there (with_segment_id ss k id) to).segment_id (hop_there (with_segment_id ss k id) to).mac ≡ (info_there ss to).segment_id =
      ap₂ (λ (i : InfoField) (h : HopField). chain i.segment_id h.mac) set same ∙ chain_back (info_there ss to).segment_id mac in
      subst (λ (v : PacketState). FollowsOn u v) (sym back) (record {
        place = refl;
        hop_is = same;
        accepted = accepted;
        verified = subst (λ (v : PacketState). is_authentic v ≡ true) back verified;
        along = λ e. absurd cc;
        against = λ e. sym (ap₂ with_identifier again set);
      })

  follows : (b : Bool) → is_along u ≡ b → is_authentic (turned_back (came b)) ≡ true → FollowsOn u (turned_back (came b))
  follows true along verified = follows_along along verified
  follows false against verified = follows_against against verified

  sent_farther : is_last_of_segment u ≡ false → is_authentic (turned_back (comes m link source moment bytes (sent_along u))) ≡ true
      → FollowsOn u (turned_back (comes m link source moment bytes (sent_along u)))
  sent_farther more verified =
      let next : (if is_last_of_segment u then next_segment u.path.place else to) ≡ to = ap (λ (b : Bool). if b then next_segment u.path.place else to) more in
      let is : sent_along u ≡ packet_at u to (with_id (if is_along u then Some (chained_id u) else None) k ss) =
      ap (λ (at : Place). packet_at u at (with_id (if is_along u then Some (chained_id u) else None) k ss)) next in
      subst (λ (p : Packet). FollowsOn u (turned_back (comes m link source moment bytes p))) (sym is)
      (follows (is_along u) refl (subst (λ (p : Packet). is_authentic (turned_back (comes m link source moment bytes p)) ≡ true) is verified))

-- ---- at the first of the two routers

past_is : {t u : PacketState} → StandsToLeave t u → past_switch t ≡ u
past_is {t} (StandsToLeave.stays still) = ap (λ (b : Bool). if b then changed_over t else t) still
past_is {t} (StandsToLeave.changes_over ends unexpired authentic) = ap (λ (b : Bool). if b then changed_over t else t) ends

leaves_authentic : {t u : PacketState} → is_authentic t ≡ true → StandsToLeave t u → is_authentic u ≡ true
leaves_authentic authentic (StandsToLeave.stays still) = authentic
leaves_authentic authentic (StandsToLeave.changes_over ends unexpired after) = after

no_second : (b : Bool) → (b && false) ≡ false
no_second true = refl
no_second false = refl

-- what comes from inside isn't turned back
not_turned : (m : Network) (link : ℕ) (source : Underlay) (moment : ℕ) (bytes : List ℕ) (p : Packet) → link ≡ 0
    → turned_back (comes m link source moment bytes p) ≡ comes m link source moment bytes p
not_turned m link source moment bytes p inside =
    let v : PacketState = comes m link source moment bytes p in
    ap (λ (l : ℕ). if not (l == 0) && not (is_along v) then chained v else v) inside

-- what was sent, of a decision to send
record WasSent (v : Verdict) (out : ℕ) (to : Option Underlay) : Type 0 where
  packet : Packet
  verdict : v ≡ Sent out to packet

was_sent : (v : Verdict) (out : ℕ) (to : Option Underlay) → decision_of v ≡ decision.Send out to → WasSent v out to
was_sent (Sent l a p) out to says = record { packet = p; verdict = let link : l ≡ out = cc in let address : a ≡ to = cc in ap₂ (λ (x : ℕ) (y : Option Underlay). Sent x y p) link address }
was_sent (Answered q) out to says = absurd cc
was_sent (Dropped c) out to says = absurd cc

authorised : (n : Network) (link : ℕ) (source : Underlay) (moment : ℕ) (bytes : List ℕ) (out : ℕ) (to : Option Underlay) → scion_decide n link source moment bytes ≡ decision.Send out to
    → IsAuthorised (arrives n link source moment bytes)
authorised n link source moment bytes out to says =
    let was = was_sent (verdict n link source moment bytes) out to says in
    (came_in (arrives n link source moment bytes) out to was.packet (told n link source moment bytes out to was.packet was.verdict)).authorised

module _ (n m : Network) (link link' : ℕ) (source source' : Underlay) (moment moment' : ℕ) (bytes : List ℕ) (out out' : ℕ) (to to' : Option Underlay) (are : IsBytes bytes)
    (says : scion_decide n link source moment bytes ≡ decision.Send out to) (next : scion_decide m link' source' moment' (scion_moved n link source moment bytes) ≡ decision.Send out' to') where
  abbrev s : PacketState
  s = arrives n link source moment bytes

  abbrev left : List ℕ
  left = scion_moved n link source moment bytes

  is : IsAuthorised s
  is = authorised n link source moment bytes out to says

  whole : LeavesWhole (verdict n link source moment bytes) out to bytes left
  whole = leaves_whole n link source moment bytes out to are says

  way : IsSentBy s out to whole.packet
  way = sent_by n link source moment bytes out to whole.packet whole.verdict

  verified : (p : Packet) → p ≡ whole.packet → is_authentic (turned_back (comes m link' source' moment' left p)) ≡ true
  verified p same =
      subst (λ (q : Packet). is_authentic (turned_back (comes m link' source' moment' left q)) ≡ true) (whole.read ∙ sym same) (authentic_here (arrives m link' source' moment' left) (authorised m link' source' moment' left out' to' next).authentic)

  exit_is : (u : PacketState) → StandsToLeave (turned s) u → at_exit n link source moment bytes ≡ u
  exit_is u leaves = ap past_switch (turned_is s) ∙ past_is leaves

  exit_authentic : (u : PacketState) → StandsToLeave (turned s) u → is_authentic u ≡ true
  exit_authentic u leaves = leaves_authentic (ap is_authentic (sym (turned_is s)) ∙ authentic_here s is.authentic) leaves

  -- the law's standings are these
  named : (P : PacketState → PacketState → Type 0) (u : PacketState) (p : Packet) → StandsToLeave (turned s) u → p ≡ whole.packet → P u (turned_back (comes m link' source' moment' left p))
      → P (at_exit n link source moment bytes) (at_entry m link' source' moment' left)
  named P u p leaves same holds =
      subst (λ (x : PacketState). P x (at_entry m link' source' moment' left)) (sym (exit_is u leaves))
      (subst (λ (q : Packet). P u (turned_back (comes m link' source' moment' left q))) (same ∙ sym whole.read) holds)

  over_link_by : link' ≢ 0 → to ≡ None → is_last_of_segment (at_exit n link source moment bytes) ≡ false → (p : Packet) → p ≡ whole.packet → IsSentBy s out to p
      → FollowsOn (at_exit n link source moment bytes) (at_entry m link' source' moment' left)
  over_link_by external none more p same (IsSentBy.to_host host) = let never : None ≡ Some host.host.address = sym none ∙ host.host.to_is in absurd cc
  over_link_by external none more p same (IsSentBy.by_sibling u sibling) = let never : Some sibling.at ≡ None = sibling.address ∙ none in absurd cc
  over_link_by external none more p same (IsSentBy.by_link u by) =
      let on : IsOnPath u.path.segments u.path.place = lawful_exit n link source moment bytes are is.sound u by.leaves in
      named FollowsOn u (sent_along u) by.leaves (by.packet ∙ same)
      (sent_farther m link' source' moment' left u external (exit_authentic u by.leaves) on.there (ap is_last_of_segment (sym (exit_is u by.leaves)) ∙ more)
      (verified (sent_along u) (by.packet ∙ same)))

  pub over_link : link' ≢ 0 → to ≡ None → is_last_of_segment (at_exit n link source moment bytes) ≡ false
      → FollowsOn (at_exit n link source moment bytes) (at_entry m link' source' moment' left)
  over_link external none more = over_link_by external none more whole.packet refl way

  within_by : (at : Underlay) → link' ≡ 0 → to ≡ Some at → is_local n (packet_of bytes).header.destination ≡ false → (p : Packet) → p ≡ whole.packet → IsSentBy s out to p
      → IsSameHop (at_exit n link source moment bytes) (at_entry m link' source' moment' left)
  within_by at inside some others p same (IsSentBy.to_host host) =
      let here : (is_external s && is_local n (packet_of bytes).header.destination) ≡ false = ap (λ (b : Bool). is_external s && b) others ∙ no_second (is_external s) in
      let never : true ≡ false = sym host.for_us ∙ here in absurd cc
  within_by at inside some others p same (IsSentBy.by_link u by) = let never : None ≡ Some at = by.address ∙ some in absurd cc
  within_by at inside some others p same (IsSentBy.by_sibling u by) =
      let stays : turned_back (comes m link' source' moment' left (packet u)) ≡ comes m link' source' moment' left (packet u) = not_turned m link' source' moment' left (packet u) inside in
      named IsSameHop u (packet u) by.leaves (by.packet ∙ same)
      (subst (λ (v : PacketState). IsSameHop u v) (sym stays) (record {
        place = refl;
        info_is = refl;
        hop_is = refl;
        accepted = exit_authentic u by.leaves;
        verified = subst (λ (v : PacketState). is_authentic v ≡ true) stays (verified (packet u) (by.packet ∙ same));
      }))

  pub within : (at : Underlay) → link' ≡ 0 → to ≡ Some at → is_local n (packet_of bytes).header.destination ≡ false
      → IsSameHop (at_exit n link source moment bytes) (at_entry m link' source' moment' left)
  within at inside some others = within_by at inside some others whole.packet refl way

-- what is decided by the table of SCION paths at both routers
module _ (n m : Network) (link link' : ℕ) (source source' : Underlay) (moment moment' : ℕ) (bytes : List ℕ) (out out' : ℕ) (to to' : Option Underlay) (are : IsBytes bytes)
    (other : slice_index bytes 8 ≢ one_hop_path) (says : decide n link source moment bytes ≡ decision.Send out to)
    (next : decide m link' source' moment' (moved n link source moment bytes) ≡ decision.Send out' to') where
  here : IsDecidedAsScion n link source moment bytes
  here = decided_as_scion n link source moment bytes (other_kind n link bytes other)

  pub says_so : scion_decide n link source moment bytes ≡ decision.Send out to
  says_so = sym here.decision ∙ says

  left_sound : first_fault (scion_moved n link source moment bytes) ≡ None
  left_sound = (leaves_whole n link source moment bytes out to are says_so).sound

  there : IsDecidedAsScion m link' source' moment' (scion_moved n link source moment bytes)
  there =
      decided_as_scion m link' source' moment' (scion_moved n link source moment bytes)
      (other_kind m link' (scion_moved n link source moment bytes) (has_scion_path (scion_moved n link source moment bytes) left_sound))

  pub next_so : scion_decide m link' source' moment' (scion_moved n link source moment bytes) ≡ decision.Send out' to'
  next_so = sym there.decision ∙ subst (λ (left : List ℕ). decide m link' source' moment' left ≡ decision.Send out' to') here.bytes_are next

  pub left_is : scion_moved n link source moment bytes ≡ moved n link source moment bytes
  left_is = sym here.bytes_are

pub not_spliced : NoHopIsSplicedIn
not_spliced = record {
  over_link = λ n m link link' source source' moment moment' bytes out out' to' are other says external next more.
      subst (λ (left : List ℕ). FollowsOn (at_exit n link source moment bytes) (at_entry m link' source' moment' left))
      (left_is n m link link' source source' moment moment' bytes out out' None to' are other says next)
      (over_link n m link link' source source' moment moment' bytes out out' None to' are
      (says_so n m link link' source source' moment moment' bytes out out' None to' are other says next)
      (next_so n m link link' source source' moment moment' bytes out out' None to' are other says next) external refl more);
  within = λ n m link source source' moment moment' bytes out out' to to' are other says others next.
      subst (λ (left : List ℕ). IsSameHop (at_exit n link source moment bytes) (at_entry m 0 source' moment' left))
      (left_is n m link 0 source source' moment moment' bytes out out' (Some to) to' are other says next)
      (within n m link 0 source source' moment moment' bytes out out' (Some to) to' are
      (says_so n m link 0 source source' moment moment' bytes out out' (Some to) to' are other says next)
      (next_so n m link 0 source source' moment moment' bytes out out' (Some to) to' are other says next) to refl refl others);
}
