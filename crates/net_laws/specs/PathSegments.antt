-- A path over beaconed path segments, AS entry by AS entry, and the route that they make.
use Rattle.std.specs.Prelude.{◌≡◌, ◌≤◌, ◌<◌, ◌+◌, ◌-◌, ◌^◌, ℕ, Bool, true, false, List, [], length, map, slice_index_or, Some, if◌then◌else◌}
use Rattle.field_rows.specs.Place.{IsBytes}
use Rattle.hop_check.specs.Expiry.{is_expired}
use Rattle.scion_packet.specs.Path.{HopField, InfoField, Place, Segment}
use Rattle.scion_packet.specs.Places.{no_hop, no_segment}
use Rattle.segment_switch.specs.Pairs.{changes_over}
use Rattle.segment_switch.specs.declared.kind.LinkKind.{LinkKind}
use Rattle.segment_switch.specs.declared.kind.LinkKind.TheVariants.{Core, Parent, Child}
use Rattle.process_packet.specs.declared.neighbours.Link.{Link}
use Rattle.process_packet.specs.Network.{own_link}
use Rattle.hop_check.specs.Beaconing.{AreBeaconed}
use Rattle.net_laws.specs.Stretch.{Stretch, beta_met, key_met, segment_of}
use Rattle.net_laws.specs.Net.{Joined, Net, Router, end_at, router_at}
use Rattle.net_laws.specs.Domain.{Domain, IsOf}
use Rattle.net_laws.specs.Route.{IsBefore, Route}

-- An AS entry of a path segment: the AS, its key, the hop field that it wrote, and its routers with the two interfaces that the
-- hop field names.
pub record AsEntry : Type 0 where
  pub home : Domain
  pub key : List ℕ
  pub field : HopField
  pub taken_by : ℕ  -- the router with the interface by which the beacon came
  pub sent_by : ℕ  -- and the one with that by which it went on

-- a path segment: its AS entries in the order of construction, the first identifier, and the info field as a packet sets out
-- with it, which tells whether the segment is travelled along
pub record PathSegment : Type 0 where
  pub info : InfoField
  pub beta : ℕ
  pub is_core : Bool  -- whether its links are core links, or lead from parent to child
  pub made : List AsEntry

abbrev pub no_entry : AsEntry
no_entry = record { home = record { isd = 0; autonomous_system = 0 }; key = []; field = no_hop; taken_by = 0; sent_by = 0 }

abbrev pub no_path_segment : PathSegment
no_path_segment = record { info = no_segment.info; beta = 0; is_core = false; made = [] }

abbrev pub entry_at : PathSegment → ℕ → AsEntry
entry_at s k = slice_index_or s.made k no_entry

abbrev pub fields_of : PathSegment → List HopField
fields_of s = map (λ (h : AsEntry). h.field) s.made

abbrev pub keys_of : PathSegment → List (List ℕ)
keys_of s = map (λ (h : AsEntry). h.key) s.made

-- ---- a beaconed segment

-- One hop's interface is wired to the next hop's, by a link of the segment's kind.
pub record AreWired (net : Net) (is_core : Bool) (h next : AsEntry) : Type 0 where
  pub sender : Router
  pub sender_is : router_at net h.sent_by ≡ Some sender
  pub sender_home : IsOf sender h.home
  pub taker : Router
  pub taker_is : router_at net next.taken_by ≡ Some taker
  pub taker_home : IsOf taker next.home
  pub link : Link
  pub link_is : own_link sender.network h.field.construction_egress ≡ Some link
  pub kind : link.kind ≡ (if is_core then Core else Child)
  pub wire : Joined net (end_at h.sent_by h.field.construction_egress) (end_at next.taken_by next.field.construction_ingress)

-- the key is that of the routers of the hop's AS
abbrev pub HasItsKey : Net → AsEntry → Type 0
HasItsKey net h = (r : ℕ) (x : Router) → router_at net r ≡ Some x → IsOf x h.home → x.network.key ≡ h.key

-- At least two hops, each with its AS's key and the MAC that this gives for the chained identifier, wired one to the next.
pub record IsBeaconed (net : Net) (s : PathSegment) : Type 0 where
  pub two : 2 ≤ length s.made
  pub beta : s.beta < 2 ^ 16
  pub keys : (k : ℕ) → k < length s.made → HasItsKey net (entry_at s k)
  pub macs : AreBeaconed (keys_of s) s.beta s.info (fields_of s)
  pub wired : (k : ℕ) → k + 1 < length s.made → AreWired net s.is_core (entry_at s k) (entry_at s (k + 1))

abbrev pub AreUnexpired : PathSegment → ℕ → Type 0
AreUnexpired s moment = (k : ℕ) → k < length s.made → is_expired s.info (entry_at s k).field moment ≡ false

-- ---- as it is travelled

-- the AS entry that is met at a position
abbrev pub entry_on : PathSegment → ℕ → AsEntry
entry_on s i = entry_at s (if s.info.along then i else length s.made - 1 - i)

-- what the AS before a hop of the segment is to the hop's, and the AS after it
abbrev pub kind_before : PathSegment → LinkKind
kind_before s = if s.is_core then Core else if s.info.along then Parent else Child

abbrev pub kind_after : PathSegment → LinkKind
kind_after s = if s.is_core then Core else if s.info.along then Child else Parent

abbrev pub stretch_of : PathSegment → Stretch
stretch_of s = record { info = s.info; made = fields_of s; keys = keys_of s; beta = s.beta }

-- ---- a path over one to three of them

abbrev pub part : List PathSegment → ℕ → PathSegment
part ss k = slice_index_or ss k no_path_segment

-- the MACs of the hop fields are bytes, as in each datagram
abbrev pub HaveByteMacs : List PathSegment → Type 0
HaveByteMacs ss = (k j : ℕ) → k < length ss → j < length (part ss k).made → IsBytes (entry_at (part ss k) j).field.mac

abbrev pub met : List PathSegment → Place → AsEntry
met ss at = entry_on (part ss at.segment) at.position

-- the place is one of the path
pub record IsMet (ss : List PathSegment) (at : Place) : Type 0 where
  pub segment : at.segment < length ss
  pub position : at.position < length (part ss at.segment).made

-- the last hop of one stretch, and the first one of the next
pub record IsJoint (ss : List PathSegment) (a b : Place) : Type 0 where
  pub last : a.position + 1 ≡ length (part ss a.segment).made
  pub next : a.segment + 1 ≡ b.segment
  pub first : b.position ≡ 0

-- One to three stretches of beaconed segments. Each ends in the AS where the next one begins, over a pair of links that may be
-- changed over; all other ASes are distinct.
pub record IsPathOver (net : Net) (ss : List PathSegment) : Type 0 where
  pub some : 1 ≤ length ss
  pub few : length ss ≤ 3
  pub beaconed : (k : ℕ) → k < length ss → IsBeaconed net (part ss k)
  pub meets : (a b : Place) → IsMet ss a → IsMet ss b → IsJoint ss a b → (met ss a).home ≡ (met ss b).home
  pub pair : (k : ℕ) → k + 1 < length ss → changes_over (kind_before (part ss k)) (kind_after (part ss (k + 1))) ≡ true
  pub distinct : (a b : Place) → IsMet ss a → IsMet ss b → IsBefore a b → (met ss a).home ≡ (met ss b).home → IsJoint ss a b

-- ---- its route

abbrev pub segments_of : List PathSegment → List Segment
segments_of ss = map (λ (s : PathSegment). segment_of (stretch_of s)) ss

abbrev pub route_over : List PathSegment → Route
route_over ss = record {
  segments = segments_of ss;
  beta = λ at. beta_met (stretch_of (part ss at.segment)) at.position;
  home = λ at. (met ss at).home;
  key = λ at. key_met (stretch_of (part ss at.segment)) at.position;
  entered_by = λ at. if (part ss at.segment).info.along then (met ss at).taken_by else (met ss at).sent_by;
  left_by = λ at. if (part ss at.segment).info.along then (met ss at).sent_by else (met ss at).taken_by;
  kind_in = λ at. kind_before (part ss at.segment);
  kind_out = λ at. kind_after (part ss at.segment);
}
