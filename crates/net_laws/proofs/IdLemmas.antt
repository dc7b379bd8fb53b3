-- The segment identifiers on the way.
use Rattle.std.proofs.Common.{◌≡◌, ◌<◌, ◌+◌, ◌-◌, ℕ, zero, suc, Bool, true, false, not, List, [], ◌∷◌, length, slice_index_or, Some, None, refl, sym, ap, ap₂, subst, ◌∙◌, arith, if◌then◌else◌, inl, inr}
use Rattle.std.specs.Prelude.{bit_xor}
use Rattle.std.specs.Int.Bits.{xor_assoc, xor_self}
use Rattle.std.proofs.lemmas.Nat.{xor_comm}
use Rattle.std.proofs.lemmas.Bool.{cases_lt}
use Rattle.field_rows.specs.Place.{number_at}
use Rattle.hop_check.specs.Mac.{chain}
use Rattle.path_fields.specs.InPlace.{with_segment_id}
use Rattle.scion_packet.specs.Path.{HopField, InfoField, Place, Segment, hops_in, place_at}
use Rattle.scion_packet.specs.Places.{hop_there, info_there, no_hop}
use Rattle.scion_packet.proofs.Offsets.{hops_in_is}
use Rattle.process_packet.specs.PacketView.{IsAlike, with_id}
use Rattle.process_packet.proofs.AlikeLemmas.{alike_set, info_set}
use Rattle.net_laws.specs.Route.{Route, after, hop_of, id_before, id_after, info_of}
use Rattle.net_laws.specs.Stands.{IdsStand, hops_at, id_now, with_id_of}

xor_back : (a b : ℕ) → bit_xor (bit_xor a b) b ≡ a
xor_back a b = xor_assoc a b b ∙ ap (λ (n : ℕ). bit_xor a n) (xor_self b) ∙ xor_comm a 0

pub chain_back : (beta : ℕ) (mac : List ℕ) → chain (chain beta mac) mac ≡ beta
chain_back beta mac = xor_back beta (number_at mac 0 2)

-- ---- the hops

pub hop_is : {w : Route} {o : Bool} {at : Place} {ss : List Segment} → IdsStand w o at ss → (p : Place) → hop_there ss p ≡ hop_of w p
hop_is stands p = ap (λ (hs : List HopField). slice_index_or hs p.position no_hop) (stands.hops p.segment)

pub size_is : {w : Route} {o : Bool} {at : Place} {ss : List Segment} → IdsStand w o at ss → (k : ℕ) → hops_in ss k ≡ hops_in w.segments k
size_is {w} {o} {at} {ss} stands k = hops_in_is ss k ∙ ap length (stands.hops k) ∙ sym (hops_in_is w.segments k)

hops_set : (ss : List Segment) (k id j : ℕ) → hops_at (with_segment_id ss k id) j ≡ hops_at ss j
hops_set [] k id j = refl
hops_set (s ∷ ss) zero id zero = refl
hops_set (s ∷ ss) zero id (suc j) = refl
hops_set (s ∷ ss) (suc k) id zero = refl
hops_set (s ∷ ss) (suc k) id (suc j) = hops_set ss k id j

here_set : (ss : List Segment) (k id : ℕ) (p : Place) → p.segment ≡ k → k < length ss → info_there (with_segment_id ss k id) p ≡ with_id_of id (info_there ss p)
here_set ss k id p same there =
    subst (λ (n : ℕ). info_there (with_segment_id ss n id) p ≡ with_id_of id (info_there ss p)) same (info_set ss p.segment id p.position (omega arith))

-- the identifier at hand is set
pub ids_set : (w : Route) (o o' : Bool) (at at' : Place) (ss : List Segment) (id : ℕ) → IdsStand w o at ss → at.segment < length w.segments
    → at'.segment ≡ at.segment → id ≡ id_now w o' at' → IdsStand w o' at' (with_segment_id ss at.segment id)
ids_set w o o' at at' ss id stands there segment is =
    let alike : IsAlike at.segment ss (with_segment_id ss at.segment id) = alike_set ss at.segment id in
    let count = stands.count in
    record {
      count = alike.count ∙ stands.count;
      hops = λ k. hops_set ss at.segment id k ∙ stands.hops k;
      earlier = λ p lt. alike.info p (λ same. absurd (omega arith)) ∙ stands.earlier p (omega arith);
      here = λ p same.
          here_set ss at.segment id p (same ∙ segment) (omega arith) ∙ ap (with_id_of id) (stands.here p (same ∙ segment))
          ∙ ap (λ (n : ℕ). with_id_of n (info_of w p)) is;
      ahead = λ p lt below. alike.info p (λ same. absurd (omega arith)) ∙ stands.ahead p (omega arith) below;
    }

-- or it is the right one already
pub ids_same : (w : Route) (o o' : Bool) (at at' : Place) (ss : List Segment) → IdsStand w o at ss → at'.segment ≡ at.segment
    → id_now w o at ≡ id_now w o' at' → IdsStand w o' at' ss
ids_same w o o' at at' ss stands segment is = record {
  count = stands.count;
  hops = stands.hops;
  earlier = λ p lt. stands.earlier p (omega arith);
  here = λ p same. stands.here p (same ∙ segment) ∙ ap (λ (n : ℕ). with_id_of n (info_of w p)) is;
  ahead = λ p lt below. stands.ahead p (omega arith) below;
}

-- ---- a hop taken in

id_turned : (b : Bool) (beta : ℕ) (mac : List ℕ) → b ≡ false → chain (if b then beta else chain beta mac) mac ≡ beta
id_turned true beta mac is = absurd cc
id_turned false beta mac is = chain_back beta mac

id_kept : (b : Bool) (beta id : ℕ) → b ≡ true → (if b then beta else id) ≡ beta
id_kept true beta id is = refl
id_kept false beta id is = absurd cc

pub not_along : (b : Bool) → true ≡ not b → b ≡ false
not_along true e = e
not_along false e = refl

is_along : (b : Bool) → false ≡ not b → b ≡ true
is_along true e = refl
is_along false e = e

-- the identifier that is turned back, and the one that is chained
pub turned_id : (w : Route) (at : Place) (ss : List Segment) → IdsStand w true at ss → (info_of w at).along ≡ false
    → chain (info_there ss at).segment_id (hop_there ss at).mac ≡ w.beta at
turned_id w at ss stands along =
    ap₂ (λ (i : InfoField) (h : HopField). chain i.segment_id h.mac) (stands.here at refl) (hop_is stands at)
    ∙ id_turned (info_of w at).along (w.beta at) (hop_of w at).mac along

chosen : (b : Bool) (x y : ℕ) → b ≡ true → x ≡ (if b then x else y)
chosen true x y is = refl
chosen false x y is = absurd cc

pub chained_id : (w : Route) (at : Place) (ss : List Segment) → IdsStand w false at ss → (info_of w at).along ≡ true
    → chain (info_there ss at).segment_id (hop_there ss at).mac ≡ id_after w at
chained_id w at ss stands along =
    ap₂ (λ (i : InfoField) (h : HopField). chain i.segment_id h.mac) (stands.here at refl) (hop_is stands at)
    ∙ chosen (info_of w at).along (chain (w.beta at) (hop_of w at).mac) (w.beta at) along

pub ids_turned : (w : Route) (b : Bool) (at : Place) (ss : List Segment) → IdsStand w true at ss → at.segment < length w.segments
    → b ≡ not (info_of w at).along
    → IdsStand w false at (if b then with_segment_id ss at.segment (chain (info_there ss at).segment_id (hop_there ss at).mac) else ss)
ids_turned w true at ss stands there against =
    let along : (info_of w at).along ≡ false = not_along (info_of w at).along against in
    ids_set w true false at at ss _ stands there refl
    (turned_id w at ss stands along)
ids_turned w false at ss stands there against =
    let along : (info_of w at).along ≡ true = is_along (info_of w at).along against in
    ids_same w true false at at ss stands refl (id_kept (info_of w at).along (w.beta at) _ along)

-- ---- a hop left

id_out : (b : Bool) (beta : ℕ) (mac : List ℕ) (id : ℕ) → (if b then chain beta mac else beta) ≡ id → b ≡ true → chain beta mac ≡ id
id_out true beta mac id is along = is
id_out false beta mac id is along = absurd cc

id_stays : (b : Bool) (beta : ℕ) (mac : List ℕ) (id : ℕ) → (if b then chain beta mac else beta) ≡ id → b ≡ false → beta ≡ id
id_stays true beta mac id is along = absurd cc
id_stays false beta mac id is along = is

pub ids_left : (w : Route) (b : Bool) (at : Place) (ss : List Segment) → IdsStand w false at ss → at.segment < length w.segments → b ≡ (info_of w at).along
    → id_after w at ≡ id_before w (after at)
    → IdsStand w true (after at) (with_id (if b then Some (chain (info_there ss at).segment_id (hop_there ss at).mac) else None) at.segment ss)
ids_left w true at ss stands there along crosses =
    ids_set w false true at (after at) ss _ stands there refl
    (ap₂ (λ (i : InfoField) (h : HopField). chain i.segment_id h.mac) (stands.here at refl) (hop_is stands at)
    ∙ id_out (info_of w at).along (w.beta at) (hop_of w at).mac (id_before w (after at)) crosses (sym along))
ids_left w false at ss stands there along crosses =
    ids_same w false true at (after at) ss stands refl (id_stays (info_of w at).along (w.beta at) (hop_of w at).mac (id_before w (after at)) crosses (sym along))

-- ---- over to the next segment

pub ids_over : (w : Route) (at : Place) (ss : List Segment) → IdsStand w false at ss → at.position + 1 ≡ hops_in w.segments at.segment
    → at.segment + 1 < length w.segments → IdsStand w false (place_at (at.segment + 1) 0) ss
ids_over w at ss stands last followed = record {
  count = stands.count;
  hops = stands.hops;
  earlier = λ p lt. elim (cases_lt p.segment at.segment) [
    | inl below ↦ stands.earlier p below
    | inr above ↦
        let same : p.segment ≡ at.segment = omega arith in
        let size : hops_in w.segments p.segment ≡ hops_in w.segments at.segment = ap (hops_in w.segments) same in
        let position : at.position ≡ hops_in w.segments p.segment - 1 = omega arith in
        stands.here p same ∙ ap (λ (n : ℕ). with_id_of n (info_of w p)) (ap w.beta (ap₂ place_at (sym same) position))
  ];
  here = λ p same.
      let below : p.segment < length w.segments = omega arith in
      stands.ahead p (omega arith) below ∙ ap (λ (n : ℕ). with_id_of (w.beta (place_at n 0)) (info_of w p)) same;
  ahead = λ p lt below. stands.ahead p (omega arith) below;
}
