-- The segments that the ASes of a net beaconed, and the premise that nobody else makes MACs.
use Rattle.std.specs.Prelude.{◌≡◌, ◌<◌, ℕ, suc, List, length, Contains, Some}
use Rattle.std.specs.List.{slice_get}
use Rattle.hop_check.specs.Beaconing.{beta_at}
use Rattle.scion_packet.specs.Path.{HopField, InfoField}
use Rattle.process_packet.specs.Conditions.{CarriesMac}
use Rattle.process_packet.specs.PacketState.{PacketState, hop, info}
use Rattle.net_laws.specs.Domain.{IsOf}
use Rattle.net_laws.specs.Net.{Net, Router}
use Rattle.net_laws.specs.PathSegments.{IsBeaconed, PathSegment, entry_at, fields_of}
use Rattle.path_authorisation.specs.Sendings.{Sending, at_entry, at_exit}

-- ---- beaconed segments

abbrev pub AreAllBeaconed : Net → List PathSegment → Type 0
AreAllBeaconed net set = (t : PathSegment) → Contains set t → IsBeaconed net t

-- the identifier of an AS entry, and of the one that may follow the last
abbrev pub identifier_at : PathSegment → ℕ → ℕ
identifier_at t number = beta_at t.beta (fields_of t) number

-- The hop field, with the info field that a router reads with it, is this AS entry of the segment: the router's AS, the identifier,
-- the timestamp, the expiry and both interfaces are the entry's.
pub record IsEntry (t : PathSegment) (number : ℕ) (x : Router) (i : InfoField) (h : HopField) : Type 0 where
  pub there : number < length t.made
  pub home : IsOf x (entry_at t number).home
  pub identifier : i.segment_id ≡ identifier_at t number
  pub timestamp : i.timestamp ≡ t.info.timestamp
  pub expiry : h.expiry ≡ (entry_at t number).field.expiry
  pub ingress : h.construction_ingress ≡ (entry_at t number).field.construction_ingress
  pub egress : h.construction_egress ≡ (entry_at t number).field.construction_egress

-- It is an AS entry of a segment of the set.
pub record IsMade (set : List PathSegment) (x : Router) (i : InfoField) (h : HopField) : Type 0 where
  pub segment : PathSegment
  pub beaconed : Contains set segment
  pub number : ℕ
  pub entry : IsEntry segment number x i h

-- ---- no MAC is forged

-- the hop fields whose MACs a router looks at
pub data LooksAt (s : Sending) : PacketState → Type 0 where
  where_it_comes : LooksAt s (at_entry s)
  where_it_leaves : LooksAt s (at_exit s)

-- Whatever hop field a router of the walk finds to carry the MAC of its key, its AS made in beaconing.
abbrev pub NoMacIsForged : List PathSegment → List Sending → Type 0
NoMacIsForged set walk =
    (i : ℕ) (s : Sending) (u : PacketState) → slice_get walk i ≡ Some s → LooksAt s u → CarriesMac s.here.network.key (info u).segment_id (info u) (hop u)
    → IsMade set s.here (info u) (hop u)

-- ---- no identifier collides

-- Two AS entries are the same, but maybe for what their segments go on to.
pub record IsSameEntry (s t : PathSegment) (j k : ℕ) : Type 0 where
  pub home : (entry_at s j).home ≡ (entry_at t k).home
  pub identifier : identifier_at s j ≡ identifier_at t k
  pub expiry : (entry_at s j).field.expiry ≡ (entry_at t k).field.expiry
  pub ingress : (entry_at s j).field.construction_ingress ≡ (entry_at t k).field.construction_ingress
  pub egress : (entry_at s j).field.construction_egress ≡ (entry_at t k).field.construction_egress

-- The entry k of the one is the one after this entry of the other, which both have.
pub record IsAfter (s t : PathSegment) (j k : ℕ) : Type 0 where
  pub before : ℕ
  pub next : k ≡ suc before
  pub same : IsSameEntry s t j before

-- Of segments with one timestamp, an entry that has the identifier to which another one chains is the entry after that one.
abbrev pub NoIdentifierCollides : List PathSegment → Type 0
NoIdentifierCollides set =
    (s t : PathSegment) (j k : ℕ) → Contains set s → Contains set t → s.info.timestamp ≡ t.info.timestamp → j < length s.made → k < length t.made
    → identifier_at s (suc j) ≡ identifier_at t k → IsAfter s t j k
