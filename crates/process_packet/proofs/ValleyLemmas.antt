-- What comes over a link leaves without a valley.
use Rattle.std.proofs.Common.{◌≡◌, ◌≢◌, ℕ, Bool, false, Option, Some, None, refl, sym, ap, ap₂, subst, ◌∙◌, inl, inr}
use Rattle.std.specs.Prelude.{is_some, option_map}
use Rattle.scion_packet.specs.Header.{HeaderFields}
use Rattle.segment_switch.specs.declared.kind.LinkKind.{LinkKind}
use Rattle.process_packet.specs.declared.neighbours.Link.{Link}
use Rattle.process_packet.specs.declared.neighbours.Sibling.{Sibling}
use Rattle.process_packet.specs.declared.underlay.Underlay.{Underlay}
use Rattle.process_packet.specs.Conditions.{HasItsPair, MayFollow}
use Rattle.process_packet.specs.Laws.{LeavesByItsEgress, LeftLawfully, changes}
use Rattle.process_packet.specs.Neighbours.{sibling_at}
use Rattle.process_packet.specs.Network.{Network, is_local, kind_or, own_link, sibling}
use Rattle.process_packet.specs.PacketState.{PacketState, arrival_kind, arrives, changed_over, egress, turned_back}
use Rattle.process_packet.specs.ValleyFree.{GoesWithoutValley, IsValleyFree, LeavesTo, WaysAreValleyFree}
use Rattle.process_packet.proofs.ConditionLemmas.{came_by}
use Rattle.process_packet.proofs.LawLemmas.{left_lawfully, told}
use Rattle.process_packet.proofs.TurningLemmas.{turned_stays}

-- the lawful pairs have none
free : (changing : Bool) (o : Option LinkKind) (from to : LinkKind) → o ≡ Some from → MayFollow changing o to → IsValleyFree changing from to
free _ _ from to is MayFollow.from_inside = absurd cc
free _ _ from _ is MayFollow.core = record { after_down = λ e. cc; after_core = λ e up. cc; still_up = λ c e. cc; still_core = λ c e. cc; not_from_down = λ c e. cc; not_to_up = λ c e. cc }
free _ _ from _ is MayFollow.up = record { after_down = λ e. cc; after_core = λ e up. cc; still_up = λ c e. cc; still_core = λ c e. cc; not_from_down = λ c e. cc; not_to_up = λ c e. cc }
free _ _ from _ is MayFollow.down = record { after_down = λ e. cc; after_core = λ e up. cc; still_up = λ c e. cc; still_core = λ c e. cc; not_from_down = λ c e. cc; not_to_up = λ c e. cc }
free _ _ from _ is MayFollow.core_to_down = record { after_down = λ e. cc; after_core = λ e up. cc; still_up = λ c e. cc; still_core = λ c e. cc; not_from_down = λ c e. cc; not_to_up = λ c e. cc }
free _ _ from _ is MayFollow.up_to_core = record { after_down = λ e. cc; after_core = λ e up. cc; still_up = λ c e. cc; still_core = λ c e. cc; not_from_down = λ c e. cc; not_to_up = λ c e. cc }
free _ _ from _ is MayFollow.up_to_down = record { after_down = λ e. cc; after_core = λ e up. cc; still_up = λ c e. cc; still_core = λ c e. cc; not_from_down = λ c e. cc; not_to_up = λ c e. cc }

-- ---- the way out

record LeavesKind (n : Network) (out : ℕ) (to : Option Underlay) (k : LinkKind) : Type 0 where
  kind : LinkKind
  is : kind ≡ k
  leaves : LeavesTo n out to kind

leaves_by : (u : PacketState) (out : ℕ) (to : Option Underlay) (k : LinkKind) (l : Option Link) (b : Option Sibling) → LeavesByItsEgress u out to
    → own_link u.network (egress u) ≡ l → sibling u.network (egress u) ≡ b → kind_or l b ≡ Some k → LeavesKind u.network out to k
leaves_by u out to k (Some l) b way own listed known =
    let by = way.own (ap (λ (o : Option Link). is_some o) own) in
    record { kind = l.kind; is = cc; leaves = LeavesTo.by_link l (ap (own_link u.network) by.0 ∙ own) by.1 }
leaves_by u out to k None (Some b) way own listed known =
    let by = way.other (ap (λ (o : Option Link). is_some o) own) in
    record { kind = b.kind; is = cc; leaves = LeavesTo.by_sibling (egress u) b listed by.0 (by.1 ∙ ap (λ (o : Option Sibling). option_map sibling_at o) listed) }
leaves_by u out to k None None way own listed known = absurd cc

-- at the hop by which it leaves
without_valley : (u : PacketState) (out : ℕ) (to : Option Underlay) (own : Link) (changing : Bool) → LeavesByItsEgress u out to → u.switched ≡ changing → u.link ≢ 0
    → own_link u.network u.link ≡ Some own → GoesWithoutValley u.network changing own.kind out to
without_valley u out to own changing way switched outside there =
    let pair : HasItsPair u = way.pair in
    let left = leaves_by u out to pair.to (own_link u.network (egress u)) (sibling u.network (egress u)) way refl refl pair.known in
    let lawful : MayFollow changing (arrival_kind u) left.kind = subst (λ (b : Bool). MayFollow b (arrival_kind u) left.kind) switched (subst (λ (k : LinkKind). MayFollow u.switched (arrival_kind u) k) (sym left.is) pair.lawful) in
    record { kind = left.kind; leaves = left.leaves; free = free changing (arrival_kind u) own.kind left.kind (came_by u own outside there) lawful }

by_way : (t : PacketState) (out : ℕ) (to : Option Underlay) (own : Link) → LeftLawfully t out to → t.switched ≡ false → t.link ≢ 0 → own_link t.network t.link ≡ Some own
    → is_local t.network t.header.destination ≡ false → GoesWithoutValley t.network (changes t) own.kind out to
by_way t out to own (inl inside) switched outside there others = let here = inside.is_for_us in absurd cc
by_way t out to own (inr (inl way)) switched outside there others =
    without_valley t out to own (changes t) way.leaves (switched ∙ sym way.stays) outside there
by_way t out to own (inr (inr way)) switched outside there others =
    without_valley (changed_over t) out to own (changes t) way.leaves (sym way.changes) outside there

pub ways_free : WaysAreValleyFree
ways_free n link source moment bytes out to p own sent outside there others =
    let s : PacketState = arrives n link source moment bytes in
    let t : PacketState = turned_back s in
    let same = turned_stays s in
    let left = (left_lawfully s out to p (told n link source moment bytes out to p sent)).lawfully in
    subst (λ (m : Network). GoesWithoutValley m (changes t) own.kind out to) same.network
    (by_way t out to own left same.switched (λ zero. outside (sym same.link ∙ zero)) (ap₂ own_link same.network same.link ∙ there)
    (ap₂ (λ (m : Network) (h : HeaderFields). is_local m h.destination) same.network same.header ∙ others))
