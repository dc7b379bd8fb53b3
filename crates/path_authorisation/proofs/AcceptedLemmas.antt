-- The hop fields that a router accepts: where a packet comes and where it leaves they carry their MACs, and over a link they follow one
-- another.
use Rattle.std.proofs.Common.{◌≡◌, ◌≢◌, ◌⊎◌, ◌+◌, ◌&&◌, not, ℕ, Bool, true, false, List, Option, Some, None, refl, sym, ap, ap₂, subst, ◌∙◌, inl, inr, if◌then◌else◌}
use Rattle.scion_packet.specs.Packet.{Packet, packet_of}
use Rattle.scion_packet.specs.Path.{HopField, Place, place_at}
use Rattle.process_packet.specs.declared.decision.Decision.TheVariants as decision
use Rattle.process_packet.specs.declared.underlay.Underlay.{Underlay}
use Rattle.process_packet.specs.Chaining.{FollowsOn, IsSameHop}
use Rattle.process_packet.specs.Conditions.{CarriesMac, ComesInBy, GoesOutBy}
use Rattle.process_packet.specs.Decide.{decide}
use Rattle.process_packet.specs.Laws.{LeftLawfully, changes}
use Rattle.process_packet.specs.Network.{Network, is_local}
use Rattle.process_packet.specs.PacketState.{PacketState, arrives, egress, ingress, changed_over, hop, info, is_authentic, is_followed, is_last_of_segment, next_segment, past_switch}
use Rattle.process_packet.specs.Shown.{StandsToLeave, turned}
use Rattle.process_packet.proofs.ChainingLemmas.{not_spliced}
use Rattle.process_packet.proofs.ConditionLemmas.{authentic_here, carries_mac, comes_in_by, goes_out_by, ingress_alone, is_here, refuted}
use Rattle.process_packet.proofs.LawLemmas.{left_lawfully, told}
use Rattle.process_packet.proofs.RowsPassed.{turned_is}
use Rattle.process_packet.proofs.TurningLemmas.{turned_along, turned_hop, turned_stays}
use Rattle.net_laws.specs.Configured.{AreNumbered}
use Rattle.net_laws.specs.Net.{Agrees, Net}
use Rattle.path_authorisation.specs.Sendings.{ComesFrom, IsOnLongPath, IsSending, Sending, arrival, at_entry, at_exit, left}
use Rattle.path_authorisation.proofs.NextLemmas.{IsOverWire, IsWithin, over_wire, within}
use Rattle.path_authorisation.proofs.WayLemmas.{authorised, elsewhere, next_packet, sent_by_link, state, whole}

-- ---- at one router

past_network : (b : Bool) (t : PacketState) → (if b then changed_over t else t).network ≡ t.network
past_network true t = refl
past_network false t = refl

entry_network : (s : Sending) → (at_entry s).network ≡ s.here.network
entry_network s = (turned_stays (arrives s.here.network s.link s.source s.moment s.bytes)).network

exit_network : (s : Sending) → (at_exit s).network ≡ s.here.network
exit_network s = past_network (changes (at_entry s)) (at_entry s) ∙ entry_network s

carries_by : (n : Network) (u : PacketState) → u.network ≡ n → is_authentic u ≡ true → CarriesMac n.key (info u).segment_id (info u) (hop u)
carries_by n u same authentic = subst (λ (m : Network). CarriesMac m.key (info u).segment_id (info u) (hop u)) same ((carries_mac u.network.key (info u) (hop u)).0 authentic)

-- It leaves by the hop field by which it came, or by one of the next segment.
past_by : (b : Bool) (e : PacketState) → ((if b then changed_over e else e) ≡ e) ⊎ ((if b then changed_over e else e).path.place.segment ≡ e.path.place.segment + 1)
past_by true e = inr refl
past_by false e = inl refl

pub exits : (s : Sending) → (at_exit s ≡ at_entry s) ⊎ ((at_exit s).path.place.segment ≡ (at_entry s).path.place.segment + 1)
exits s = past_by (changes (at_entry s)) (at_entry s)

stays_at : (t : PacketState) → changes t ≡ false → past_switch t ≡ t
stays_at t still = ap (λ (b : Bool). if b then changed_over t else t) still

ends_so : (last followed : Bool) → (last && not followed) ≡ true → (last && followed) ≡ false
ends_so true true is = absurd cc
ends_so true false is = refl
ends_so false followed is = refl

exit_by : (t : PacketState) (out : ℕ) (to : Option Underlay) → is_authentic t ≡ true → LeftLawfully t out to → is_authentic (past_switch t) ≡ true
exit_by t out to authentic (inl way) = ap is_authentic (stays_at t (ends_so (is_last_of_segment t) (is_followed t) way.at_its_end)) ∙ authentic
exit_by t out to authentic (inr (inl way)) = ap is_authentic (stays_at t way.stays) ∙ authentic
exit_by t out to authentic (inr (inr way)) = ap (λ (b : Bool). is_authentic (if b then changed_over t else t)) way.changes ∙ way.authentic

past_is : {t u : PacketState} → StandsToLeave t u → past_switch t ≡ u
past_is {t} (StandsToLeave.stays still) = ap (λ (b : Bool). if b then changed_over t else t) still
past_is {t} (StandsToLeave.changes_over ends unexpired authentic) = ap (λ (b : Bool). if b then changed_over t else t) ends

module _ (net : Net) (s : Sending) (is : IsSending net s) (long : IsOnLongPath s) where
  entry_authentic : is_authentic (at_entry s) ≡ true
  entry_authentic = authentic_here (state net s is long) (authorised net s is long).authentic

  exit_authentic : is_authentic (at_exit s) ≡ true
  exit_authentic =
      let w = whole net s is long in
      let n = s.here.network in
      exit_by (at_entry s) s.out s.to entry_authentic
      (left_lawfully (state net s is long) s.out s.to w.packet (told n s.link s.source s.moment s.bytes s.out s.to w.packet w.verdict)).lawfully

  pub carries_entry : CarriesMac s.here.network.key (info (at_entry s)).segment_id (info (at_entry s)) (hop (at_entry s))
  carries_entry = carries_by s.here.network (at_entry s) (entry_network s) entry_authentic

  pub carries_exit : CarriesMac s.here.network.key (info (at_exit s)).segment_id (info (at_exit s)) (hop (at_exit s))
  carries_exit = carries_by s.here.network (at_exit s) (exit_network s) exit_authentic

  -- it comes by the link that the one names, and leaves by the link that the other names
  pub names_entry : s.link ≢ 0 → s.link ≡ ingress (at_entry s)
  names_entry outside =
      let a : PacketState = state net s is long in
      ingress_alone s.link ((authorised net s is long).by_its_link outside)
      ∙ ap₂ (λ (b : Bool) (h : HopField). if b then h.construction_ingress else h.construction_egress) (sym (turned_along a)) (sym (turned_hop a))

  pub comes_by : s.link ≢ 0 → ComesInBy (info (at_entry s)) (hop (at_entry s)) s.link
  comes_by outside =
      subst (ComesInBy (info (at_entry s)) (hop (at_entry s))) (sym (names_entry outside)) (comes_in_by (info (at_entry s)) (hop (at_entry s)))

  exit_is : (u : PacketState) → StandsToLeave (turned (state net s is long)) u → at_exit s ≡ u
  exit_is u leaves = ap past_switch (turned_is (state net s is long)) ∙ past_is leaves

  pub leaves_by : s.to ≡ None → GoesOutBy (info (at_exit s)) (hop (at_exit s)) s.out
  leaves_by none =
      let w = sent_by_link net s is long none in
      subst (GoesOutBy (info (at_exit s)) (hop (at_exit s))) (ap egress (exit_is w.exit w.by.leaves) ∙ w.by.link) (goes_out_by (info (at_exit s)) (hop (at_exit s)))

-- ---- at one router and the next

module _ (net : Net) (agrees : Agrees net) (numbered : AreNumbered net) (s t : Sending) (is : IsSending net s) (next : IsSending net t) (long : IsOnLongPath s) (comes : ComesFrom net s t) where
  pub wired : s.to ≡ None → IsOverWire s.here s.out t.here t.link
  wired none = over_wire net s.router s.here s.out s.to (arrival t) t.here agrees numbered is.here_is next.here_is none comes.carried

  pub inside : (at : Underlay) → s.to ≡ Some at → IsWithin s.here t.here t.link
  inside at some = within net s.router s.here s.out s.to (arrival t) t.here next.here_is at some comes.carried

  sends_on : decide t.here.network t.link t.source t.moment (left s) ≡ decision.Send t.out t.to
  sends_on = ap (decide t.here.network t.link t.source t.moment) (sym comes.bytes) ∙ next.decision

  pub follows_on : s.to ≡ None → is_last_of_segment (at_exit s) ≡ false → FollowsOn (at_exit s) (at_entry t)
  follows_on none more =
      let sends : decide s.here.network s.link s.source s.moment s.bytes ≡ decision.Send s.out None =
      is.decision ∙ ap (λ (o : Option Underlay). decision.Send s.out o) none in
      subst (λ (bytes : List ℕ). FollowsOn (at_exit s) (at_entry (record t { bytes = bytes }))) (sym comes.bytes)
      (not_spliced.over_link s.here.network t.here.network s.link t.link s.source t.source s.moment t.moment s.bytes s.out t.out t.to is.are long sends
      (wired none).outside sends_on more)

  -- where its segment ends at the hop by which it leaves, it comes to the next one's first
  pub next_begins : s.to ≡ None → is_last_of_segment (at_exit s) ≡ true → (at_entry t).path.place.segment ≡ (at_exit s).path.place.segment + 1
  next_begins none last =
      let w = sent_by_link net s is long none in
      let u : PacketState = w.exit in
      let exit : at_exit s ≡ u = exit_is net s is long u w.by.leaves in
      let place : (packet_of t.bytes).path.place ≡ (if is_last_of_segment u then next_segment u.path.place else place_at u.path.place.segment (u.path.place.position + 1)) =
      ap (λ (p : Packet). p.path.place) (next_packet net s t is long comes ∙ sym w.by.packet) in
      ap (λ (p : Place). p.segment) ((turned_stays (arrives t.here.network t.link t.source t.moment t.bytes)).place ∙ place ∙ ap (λ (b : Bool). if b then next_segment u.path.place else place_at u.path.place.segment (u.path.place.position + 1)) (sym (ap is_last_of_segment exit) ∙ last))
      ∙ ap (λ (v : PacketState). v.path.place.segment + 1) (sym exit)

  -- within the AS it stays at the hop by which it leaves
  pub same_hop : (at : Underlay) → s.to ≡ Some at → IsSameHop (at_exit s) (at_entry t)
  same_hop at some =
      let zero : t.link ≡ 0 = (inside at some).inside in
      let n : Network = s.here.network in
      let sends : decide n s.link s.source s.moment s.bytes ≡ decision.Send s.out (Some at) = is.decision ∙ ap (λ (o : Option Underlay). decision.Send s.out o) some in
      let after : decide t.here.network 0 t.source t.moment (left s) ≡ decision.Send t.out t.to =
      ap (λ (l : ℕ). decide t.here.network l t.source t.moment (left s)) (sym zero) ∙ sends_on in
      let others : is_local n (packet_of s.bytes).header.destination ≡ false =
      refuted (is_local n (packet_of s.bytes).header.destination)
      (λ local. elsewhere net s t is long next comes (inside at some) ((is_here n (packet_of s.bytes).header.destination).0 local)) in
      let there : IsSameHop (at_exit s) (at_entry (record t { link = 0; bytes = left s })) =
      not_spliced.within n t.here.network s.link s.source t.source s.moment t.moment s.bytes s.out t.out at t.to is.are long sends others after in
      subst (λ (bytes : List ℕ). IsSameHop (at_exit s) (at_entry (record t { bytes = bytes }))) (sym comes.bytes)
      (subst (λ (l : ℕ). IsSameHop (at_exit s) (at_entry (record t { link = l; bytes = left s }))) (sym zero) there)
