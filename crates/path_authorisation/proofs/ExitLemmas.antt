-- How a router sends a packet on: the hop by which it leaves, and what this one says of the links.
use Rattle.std.proofs.Common.{◌≡◌, ℕ, Bool, true, false, Option, Some, None, refl, sym, ap, ap₂, ◌∙◌, is_some}
use Rattle.segment_switch.specs.declared.kind.LinkKind.{LinkKind}
use Rattle.scion_packet.specs.Packet.{Packet}
use Rattle.scion_packet.specs.Path.{HopField}
use Rattle.process_packet.specs.declared.neighbours.Link.{Link}
use Rattle.process_packet.specs.declared.neighbours.Sibling.{Sibling}
use Rattle.process_packet.specs.declared.underlay.Underlay.{Underlay}
use Rattle.process_packet.specs.Conditions.{HasItsPair, MayFollow}
use Rattle.process_packet.specs.Laws.{changes}
use Rattle.process_packet.specs.Network.{Network, interface_kind, kind_or, own_link, sibling}
use Rattle.process_packet.specs.PacketState.{PacketState, arrival_kind, changed_over, egress, egress_of, info}
use Rattle.process_packet.specs.Shown.{StandsToLeave, is_for_us, turned}
use Rattle.process_packet.specs.Ways.{IsSentBy, LeavesByLink, LeavesBySibling}
use Rattle.process_packet.proofs.ConditionLemmas.{from_inside}
use Rattle.process_packet.proofs.RowsPassed.{turned_is}
use Rattle.process_packet.proofs.TurningLemmas.{turned_along, turned_hop}

-- ---- which way it is sent

pub record SentByLink (s : PacketState) (out : ℕ) (to : Option Underlay) (p : Packet) : Type 0 where
  pub exit : PacketState
  pub by : LeavesByLink s exit out to p

pub by_link : (s : PacketState) (out : ℕ) (to : Option Underlay) (p : Packet) → to ≡ None → IsSentBy s out to p → SentByLink s out to p
by_link s out to p none (IsSentBy.to_host way) = let never : None ≡ Some way.host.address = sym none ∙ way.host.to_is in absurd cc
by_link s out to p none (IsSentBy.by_link u way) = record { exit = u; by = way }
by_link s out to p none (IsSentBy.by_sibling u way) = let never : Some way.at ≡ None = way.address ∙ none in absurd cc

pub record SentBySibling (s : PacketState) (out : ℕ) (to : Option Underlay) (p : Packet) : Type 0 where
  pub exit : PacketState
  pub by : LeavesBySibling s exit out to p

pub by_sibling : (s : PacketState) (out : ℕ) (to : Option Underlay) (p : Packet) (at : Underlay) → to ≡ Some at → (is_for_us s ≡ true → ⊥) → IsSentBy s out to p → SentBySibling s out to p
by_sibling s out to p at some others (IsSentBy.to_host way) = absurd (others way.for_us)
by_sibling s out to p at some others (IsSentBy.by_link u way) = let never : None ≡ Some at = way.address ∙ some in absurd cc
by_sibling s out to p at some others (IsSentBy.by_sibling u way) = record { exit = u; by = way }

-- ---- the packet at the hop by which it leaves

pub record IsAtExit (t u : PacketState) : Type 0 where
  pub network : u.network ≡ t.network
  pub link : u.link ≡ t.link
  pub switched : u.switched ≡ changes t

pub stands_at_exit : {t u : PacketState} → StandsToLeave t u → t.switched ≡ false → IsAtExit t u
stands_at_exit {t} (StandsToLeave.stays still) not_yet = record { network = refl; link = refl; switched = not_yet ∙ sym still }
stands_at_exit {t} (StandsToLeave.changes_over ends unexpired authentic) not_yet = record { network = refl; link = refl; switched = sym ends }

-- what comes from inside doesn't change its segment
no_change : (switched : Bool) (from : Option LinkKind) (to : LinkKind) → switched ≡ true → from ≡ None → MayFollow switched from to → ⊥
no_change _ _ to is none MayFollow.from_inside = absurd cc
no_change _ _ _ is none MayFollow.core = absurd cc
no_change _ _ _ is none MayFollow.up = absurd cc
no_change _ _ _ is none MayFollow.down = absurd cc
no_change _ _ _ is none MayFollow.core_to_down = absurd cc
no_change _ _ _ is none MayFollow.up_to_core = absurd cc
no_change _ _ _ is none MayFollow.up_to_down = absurd cc

stays_inside : {t u : PacketState} → StandsToLeave t u → t.link ≡ 0 → HasItsPair u → t ≡ u
stays_inside (StandsToLeave.stays still) inside pair = refl
stays_inside {t} (StandsToLeave.changes_over ends unexpired authentic) inside pair =
    absurd (no_change true (arrival_kind (changed_over t)) pair.to refl (from_inside (changed_over t) inside) pair.lawful)

egress_turned : (s : PacketState) → egress (turned s) ≡ egress s
egress_turned s =
    ap egress (sym (turned_is s))
    ∙ ap₂ (λ (along : Bool) (h : HopField). egress_of (record (info s) { along = along }) h) (turned_along s) (turned_hop s)

-- from inside it leaves by the egress interface of the hop at which it came
pub same_egress : (s u : PacketState) → s.link ≡ 0 → StandsToLeave (turned s) u → HasItsPair u → egress u ≡ egress s
same_egress s u inside leaves pair = sym (ap egress (stays_inside leaves inside pair)) ∙ egress_turned s

-- ---- the links

pub record IsLink (o : Option Link) : Type 0 where
  pub link : Link
  pub is : o ≡ Some link

pub some_link : (o : Option Link) → is_some o ≡ true → IsLink o
some_link None is = absurd cc
some_link (Some l) is = record { link = l; is = refl }

-- what is known of an own link's kind
pub own_kind : (n : Network) (id : ℕ) (l : Link) (k : LinkKind) → own_link n id ≡ Some l → interface_kind n id ≡ Some k → k ≡ l.kind
own_kind n id l k own known =
    let both : Some l.kind ≡ Some k = sym (ap (λ (o : Option Link). kind_or o (sibling n id)) own) ∙ known in
    cc

-- and of a sibling's
pub listed_kind : (n : Network) (id : ℕ) (b : Sibling) (k : LinkKind) → own_link n id ≡ None → sibling n id ≡ Some b → interface_kind n id ≡ Some k → k ≡ b.kind
listed_kind n id b k none listed known =
    let both : Some b.kind ≡ Some k = sym (ap₂ kind_or none listed) ∙ known in
    cc
