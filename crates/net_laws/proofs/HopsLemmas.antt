-- The hops of a path over lists of hops, read as those of its route.
use Rattle.std.proofs.Common.{◌≡◌, ◌≤◌, ◌<◌, ◌+◌, ◌-◌, ℕ, Bool, true, false, List, [], length, reverse, slice_index_or, Some, refl, sym, ap, subst, ◌∙◌, arith, if◌then◌else◌, inl, inr}
use Rattle.std.proofs.Math.ListN.{get_or-map}
use Rattle.std.proofs.lemmas.List.{get_or-reverse, length-map, length-reverse}
use Rattle.scion_packet.specs.Path.{HopField, Place, Segment, hops_in}
use Rattle.scion_packet.specs.Places.{no_hop, no_segment}
use Rattle.scion_packet.proofs.Offsets.{hops_in_is}
use Rattle.segment_switch.specs.declared.kind.LinkKind.TheVariants.{Core, Parent, Child}
use Rattle.process_packet.specs.declared.neighbours.Link.{Link}
use Rattle.process_packet.specs.Network.{own_link}
use Rattle.hop_check.specs.Beaconing.{hop_at}
use Rattle.net_laws.specs.Stretch.{IsStretch, Stretch, beta_met, key_met, made_at, segment_of}
use Rattle.net_laws.specs.PathSegments.{AreWired, AsEntry, PathSegment, IsBeaconed, IsMet, fields_of, keys_of, entry_at, met, no_path_segment, no_entry, part, route_over, segments_of, stretch_of}
use Rattle.net_laws.specs.Net.{Agrees, Joined, Net, Router, end_at, opposite, router_at}
use Rattle.net_laws.specs.declared.net.End.{End}
use Rattle.net_laws.specs.Configured.{AreNumbered}
use Rattle.net_laws.specs.Domain.{IsOf}
use Rattle.net_laws.proofs.NetLemmas.{IsWired, joined_ends}
use Rattle.net_laws.specs.Route.{IsOn, hop_of, info_of}
use Rattle.net_laws.proofs.LeavesLemmas.{same_router}

-- ---- lists

pub segment_is : (ss : List PathSegment) (k : ℕ) → slice_index_or (segments_of ss) k no_segment ≡ segment_of (stretch_of (part ss k))
segment_is ss k = get_or-map (λ (s : PathSegment). segment_of (stretch_of s)) ss k no_path_segment

pub field_is : (s : PathSegment) (k : ℕ) → hop_at (fields_of s) k ≡ (entry_at s k).field
field_is s k = get_or-map (λ (h : AsEntry). h.field) s.made k no_entry

pub key_is : (s : PathSegment) (k : ℕ) → slice_index_or (keys_of s) k [] ≡ (entry_at s k).key
key_is s k = get_or-map (λ (h : AsEntry). h.key) s.made k no_entry

pub as_many : (s : PathSegment) → length (fields_of s) ≡ length s.made
as_many s = length-map s.made (λ (h : AsEntry). h.field)

turned_len : (b : Bool) (hs : List HopField) → length (if b then hs else reverse hs) ≡ length hs
turned_len true hs = refl
turned_len false hs = length-reverse hs

pub part_len : (ss : List PathSegment) (k : ℕ) → hops_in (segments_of ss) k ≡ length (part ss k).made
part_len ss k =
    hops_in_is (segments_of ss) k ∙ ap (λ (t : Segment). length t.hops) (segment_is ss k) ∙ turned_len (part ss k).info.along (fields_of (part ss k)) ∙ as_many (part ss k)

pub parts : (ss : List PathSegment) → length (segments_of ss) ≡ length ss
parts ss = length-map ss (λ (s : PathSegment). segment_of (stretch_of s))

pub is_met : (ss : List PathSegment) (at : Place) → IsOn (route_over ss) at → IsMet ss at
is_met ss at on =
    let there = on.segment in let inside = on.position in let n = parts ss in let size = part_len ss at.segment in
    record { segment = omega arith; position = omega arith }

pub is_on : (ss : List PathSegment) (at : Place) → IsMet ss at → IsOn (route_over ss) at
is_on ss at there =
    let k = there.segment in let i = there.position in let n = parts ss in let size = part_len ss at.segment in
    record { segment = omega arith; position = omega arith }

-- ---- a hop

pub info_is : (ss : List PathSegment) (at : Place) → info_of (route_over ss) at ≡ (part ss at.segment).info
info_is ss at = ap (λ (t : Segment). t.info) (segment_is ss at.segment)

-- a position's number in the order of construction, with the fields counted or the hops
pub made_is : (s : PathSegment) (i : ℕ) → made_at (stretch_of s) i ≡ (if s.info.along then i else length s.made - 1 - i)
made_is s i = ap (λ (n : ℕ). if s.info.along then i else n - 1 - i) (as_many s)

met_field : (b : Bool) (s : PathSegment) (i : ℕ) → i < length s.made → hop_at (if b then fields_of s else reverse (fields_of s)) i ≡ (entry_at s (if b then i else length s.made - 1 - i)).field
met_field true s i there = field_is s i
met_field false s i there =
    let n = as_many s in
    get_or-reverse (fields_of s) i no_hop (omega arith) ∙ ap (λ (n : ℕ). hop_at (fields_of s) (n - 1 - i)) (as_many s) ∙ field_is s (length s.made - 1 - i)

pub hop_is : (ss : List PathSegment) (at : Place) → IsMet ss at → hop_of (route_over ss) at ≡ (met ss at).field
hop_is ss at there =
    ap (λ (t : Segment). hop_at t.hops at.position) (segment_is ss at.segment)
    ∙ met_field (part ss at.segment).info.along (part ss at.segment) at.position there.position

pub its_key : (ss : List PathSegment) (at : Place) → (route_over ss).key at ≡ (met ss at).key
its_key ss at =
    let s = part ss at.segment in
    ap (λ (k : ℕ). slice_index_or (keys_of s) k []) (made_is s at.position) ∙ key_is s (if s.info.along then at.position else length s.made - 1 - at.position)

-- the stretches of the route
abbrev pub over : List PathSegment → ℕ → Stretch
over ss k = stretch_of (part ss k)

pub is_stretch : (net : Net) (ss : List PathSegment) (k : ℕ) → IsBeaconed net (part ss k) → IsStretch (route_over ss) k (over ss k)
is_stretch net ss k are = record {
  beaconed = are.macs;
  segment = segment_is ss k;
  beta = λ at same. ap (λ (j : ℕ). beta_met (stretch_of (part ss j)) at.position) same;
  key = λ at same. ap (λ (j : ℕ). key_met (stretch_of (part ss j)) at.position) same;
}

-- ---- from a hop to the next

-- the interfaces by which a hop is left and entered, and their routers
abbrev pub out_of : Bool → AsEntry → ℕ
out_of b h = if b then h.field.construction_egress else h.field.construction_ingress

abbrev pub into : Bool → AsEntry → ℕ
into b h = if b then h.field.construction_ingress else h.field.construction_egress

abbrev pub left : Bool → AsEntry → ℕ
left b h = if b then h.sent_by else h.taken_by

abbrev pub entered : Bool → AsEntry → ℕ
entered b h = if b then h.taken_by else h.sent_by

pub record Leads (net : Net) (core b : Bool) (h next : AsEntry) : Type 0 where
  pub near : Router
  pub far : Router
  pub near_there : router_at net (left b h) ≡ Some near
  pub far_there : router_at net (entered b next) ≡ Some far
  pub near_home : IsOf near h.home
  pub far_home : IsOf far next.home
  pub out : Link
  pub in_link : Link
  pub out_is : own_link near.network (out_of b h) ≡ Some out
  pub into_is : own_link far.network (into b next) ≡ Some in_link
  pub out_kind : out.kind ≡ (if core then Core else if b then Child else Parent)
  pub into_kind : in_link.kind ≡ (if core then Core else if b then Parent else Child)
  pub wire : Joined net (end_at (left b h) (out_of b h)) (end_at (entered b next) (into b next))
  pub remote : out.remote ≡ in_link.local
  pub remote_back : in_link.remote ≡ out.local
  pub out_there : 1 ≤ out_of b h
  pub into_there : 1 ≤ into b next

other_way : (net : Net) (a b : End) → Joined net a b → Joined net b a
other_way net a b joined = elim joined [ inl one ↦ inr one | inr other ↦ inl other ]

other_kind : (core : Bool) → opposite (if core then Core else Child) ≡ (if core then Core else Parent)
other_kind true = refl
other_kind false = refl

same_link : (n : Router) (id : ℕ) (l m : Link) → own_link n.network id ≡ Some l → own_link n.network id ≡ Some m → l ≡ m
same_link n id l m one other = let is : Some l ≡ Some m = sym one ∙ other in cc

wired : (net : Net) (core : Bool) (h next : AsEntry) → Agrees net → AreNumbered net → AreWired net core h next → Leads net core true h next
wired net core h next agrees numbered w =
    let e : IsWired net (end_at h.sent_by h.field.construction_egress) (end_at next.taken_by next.field.construction_ingress) = joined_ends net agrees _ _ w.wire in
    let one : e.one ≡ w.sender = same_router net h.sent_by h.sent_by e.one w.sender e.there w.sender_is refl in
    let other : e.other ≡ w.taker = same_router net next.taken_by next.taken_by e.other w.taker e.back w.taker_is refl in
    let out : own_link w.sender.network h.field.construction_egress ≡ Some e.out = subst (λ (x : Router). own_link x.network h.field.construction_egress ≡ Some e.out) one e.out_is in
    let into_is : own_link w.taker.network next.field.construction_ingress ≡ Some e.into = subst (λ (x : Router). own_link x.network next.field.construction_ingress ≡ Some e.into) other e.into_is in
    let link : e.out ≡ w.link = same_link w.sender h.field.construction_egress e.out w.link out w.link_is in
    let kind : e.out.kind ≡ (if core then Core else Child) = ap (λ (l : Link). l.kind) link ∙ w.kind in
    record {
      near = w.sender;
      far = w.taker;
      near_there = w.sender_is;
      far_there = w.taker_is;
      near_home = w.sender_home;
      far_home = w.taker_home;
      out = e.out;
      in_link = e.into;
      out_is = out;
      into_is = into_is;
      out_kind = kind;
      into_kind = e.kinds ∙ ap opposite kind ∙ other_kind core;
      wire = w.wire;
      remote = e.remote;
      remote_back = e.remote_back;
      out_there = numbered h.sent_by w.sender h.field.construction_egress e.out w.sender_is out;
      into_there = numbered next.taken_by w.taker next.field.construction_ingress e.into w.taker_is into_is;
    }

turned_round : (net : Net) (core : Bool) (h next : AsEntry) → Leads net core true h next → Leads net core false next h
turned_round net core h next l = record {
  near = l.far;
  far = l.near;
  near_there = l.far_there;
  far_there = l.near_there;
  near_home = l.far_home;
  far_home = l.near_home;
  out = l.in_link;
  in_link = l.out;
  out_is = l.into_is;
  into_is = l.out_is;
  out_kind = l.into_kind;
  into_kind = l.out_kind;
  wire = other_way net _ _ l.wire;
  remote = l.remote_back;
  remote_back = l.remote;
  out_there = l.into_there;
  into_there = l.out_there;
}

pub leads : (b : Bool) (net : Net) (s : PathSegment) → Agrees net → AreNumbered net → IsBeaconed net s → (i : ℕ) → i + 1 < length s.made
    → Leads net s.is_core b (entry_at s (if b then i else length s.made - 1 - i)) (entry_at s (if b then i + 1 else length s.made - 1 - (i + 1)))
leads true net s agrees numbered are i more = wired net s.is_core (entry_at s i) (entry_at s (i + 1)) agrees numbered (are.wired i more)
leads false net s agrees numbered are i more =
    let k = length s.made - 1 - (i + 1) in
    let next : k + 1 ≡ length s.made - 1 - i = omega arith in
    turned_round net s.is_core (entry_at s k) (entry_at s (length s.made - 1 - i))
    (subst (λ (j : ℕ). Leads net s.is_core true (entry_at s k) (entry_at s j)) next (wired net s.is_core (entry_at s k) (entry_at s (k + 1)) agrees numbered (are.wired k (omega arith))))
