-- What a router reads of a packet that stands on a route.
use Rattle.std.proofs.Common.{◌≡◌, ◌<◌, ◌+◌, ◌==◌, ◌&&◌, ◌⊎◌, ℕ, Bool, true, false, not, nat_lt, List, length, refl, sym, ap, ap₂, subst, ◌∙◌, arith, if◌then◌else◌, inl, inr}
use Rattle.std.proofs.lemmas.Bool.{eq-eqb, lt-ltb, ne_eqb}
use Rattle.std.proofs.lemmas.Slice.Eq.{bytes_eq-Decides}
use Rattle.std.specs.Str.{bytes_eq}
use Rattle.hop_check.specs.Expiry as expiry
use Rattle.hop_check.specs.Mac as hop_mac
use Rattle.hop_check.specs.Mac.{mac6}
use Rattle.scion_packet.specs.Path.{HopField, InfoField, Place, Segment, hops_in}
use Rattle.scion_packet.specs.Places.{hop_there, info_there, is_followed, is_last_of_path, is_last_of_segment}
use Rattle.process_packet.specs.declared.underlay.Ip.{Ip}
use Rattle.process_packet.specs.declared.underlay.Ip.TheVariants.{V4, V6}
use Rattle.process_packet.specs.declared.underlay.Underlay.{Underlay}
use Rattle.process_packet.specs.PacketState.{egress_of, ingress_of}
use Rattle.process_packet.specs.Underlay.{same_ip, same_underlay}
use Rattle.net_laws.specs.Route.{Route, hop_of, info_of, way_in, way_out}
use Rattle.net_laws.proofs.IdLemmas.{hop_is, size_is}
use Rattle.net_laws.specs.Stands.{IdsStand, id_now, with_id_of}

pub same_bytes : (a b : List ℕ) → a ≡ b → bytes_eq a b ≡ true
same_bytes a b e = (bytes_eq-Decides a b).1 e

pub same_ip_of : (a : Ip) → same_ip a a ≡ true
same_ip_of (V4 a) = same_bytes a a refl
same_ip_of (V6 a) = same_bytes a a refl

pub same_of : (a b : Underlay) → a ≡ b → same_underlay a b ≡ true
same_of a b e =
    subst (λ (c : Underlay). same_underlay a c ≡ true) e
    (ap₂ (λ (x y : Bool). x && y) (eq-eqb a.port a.port refl) (same_ip_of a.ip))

module _ (w : Route) (outside : Bool) (at : Place) (ss : List Segment) (stands : IdsStand w outside at ss) where
  pub info_read : info_there ss at ≡ with_id_of (id_now w outside at) (info_of w at)
  info_read = stands.here at refl

  pub along_read : (info_there ss at).along ≡ (info_of w at).along
  along_read = ap (λ (i : InfoField). i.along) (stands.here at refl)

  pub ingress_read : ingress_of (info_there ss at) (hop_there ss at) ≡ way_in w at
  ingress_read = ap₂ ingress_of (stands.here at refl) (hop_is stands at)

  pub egress_read : egress_of (info_there ss at) (hop_there ss at) ≡ way_out w at
  egress_read = ap₂ egress_of (stands.here at refl) (hop_is stands at)

  pub unexpired_read : (moment : ℕ) → expiry.is_expired (info_of w at) (hop_of w at) moment ≡ false → expiry.is_expired (info_there ss at) (hop_there ss at) moment ≡ false
  unexpired_read moment fresh = ap₂ (λ (i : InfoField) (h : HopField). expiry.is_expired i h moment) (stands.here at refl) (hop_is stands at) ∙ fresh

  pub last_read : is_last_of_segment ss at ≡ is_last_of_segment w.segments at
  last_read = ap (λ (n : ℕ). at.position + 1 == n) (size_is stands at.segment)

  pub followed_read : is_followed ss at ≡ is_followed w.segments at
  followed_read = ap (λ (n : ℕ). nat_lt (at.segment + 1) n) stands.count

  pub end_read : is_last_of_path ss at ≡ is_last_of_path w.segments at
  end_read = ap₂ (λ (a b : Bool). a && not b) last_read followed_read

-- within the AS its MAC is right
pub mac_read : (w : Route) (at : Place) (ss : List Segment) (key : List ℕ) → IdsStand w false at ss → key ≡ w.key at
    → (hop_of w at).mac ≡ mac6 (w.key at) (w.beta at) (info_of w at) (hop_of w at) → hop_mac.is_authentic key (info_there ss at) (hop_there ss at) ≡ true
mac_read w at ss key stands same right =
    ap₂ (λ (i : InfoField) (h : HopField). hop_mac.is_authentic key i h) (stands.here at refl) (hop_is stands at)
    ∙ same_bytes (hop_of w at).mac (mac6 key (w.beta at) (info_of w at) (hop_of w at))
    (right ∙ ap (λ (k : List ℕ). mac6 k (w.beta at) (info_of w at) (hop_of w at)) (sym same))

-- a flag of the hop field
pub flag_read : (b : Bool) (h : HopField) → (if b then h.ingress_alert else h.egress_alert) ≡ true → (h.ingress_alert ≡ true) ⊎ (h.egress_alert ≡ true)
flag_read true h is = inl is
flag_read false h is = inr is

pub other_flag_read : (b : Bool) (h : HopField) → (if b then h.egress_alert else h.ingress_alert) ≡ true → (h.ingress_alert ≡ true) ⊎ (h.egress_alert ≡ true)
other_flag_read true h is = inr is
other_flag_read false h is = inl is

-- ---- places

pub ends_here : (ss : List Segment) (at : Place) → at.position + 1 ≡ hops_in ss at.segment → is_last_of_segment ss at ≡ true
ends_here ss at last = eq-eqb _ _ last

pub not_last_of_segment : (ss : List Segment) (at : Place) → at.position + 1 < hops_in ss at.segment → is_last_of_segment ss at ≡ false
not_last_of_segment ss at more = ne_eqb _ _ (λ same. absurd (omega arith))

pub is_followed_by : (ss : List Segment) (at : Place) → at.segment + 1 < length ss → is_followed ss at ≡ true
is_followed_by ss at more = lt-ltb _ _ more

pub is_no_end : (ss : List Segment) (at : Place) → at.position + 1 < hops_in ss at.segment → is_last_of_path ss at ≡ false
is_no_end ss at more = ap (λ (b : Bool). b && not (is_followed ss at)) (not_last_of_segment ss at more)

-- ---- addresses

pub end_lawful : (external last local : Bool) → external ≡ true → local ≡ last → (if external then (if last then local else not local) else not local) ≡ true
end_lawful true true local e is = is
end_lawful true false local e is = ap not is
end_lawful false last local e is = absurd cc

pub end_lawful_inside : (external last local : Bool) → external ≡ false → local ≡ false → (if external then (if last then local else not local) else not local) ≡ true
end_lawful_inside true last local e is = absurd cc
end_lawful_inside false last local e is = ap not is
