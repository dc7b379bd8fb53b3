-- The path over lists of hops is a route.
use Rattle.std.proofs.Common.{◌≡◌, ◌≤◌, ◌<◌, ◌+◌, ◌-◌, ◌^◌, ℕ, zero, suc, Bool, true, false, List, length, Some, refl, sym, ap, ap₂, subst, ◌∙◌, arith, if◌then◌else◌}
use Rattle.std.proofs.lemmas.Nat.{xor_of_16}
use Rattle.field_rows.specs.Place.{IsBytes, number_at}
use Rattle.hop_check.specs.Mac.{chain}
use Rattle.hop_check.specs.Expiry.{is_expired}
use Rattle.scion_packet.specs.Path.{HopField, InfoField, Place, count_hops, place_at}
use Rattle.scion_packet.proofs.Fields.{number-lt}
use Rattle.segment_switch.specs.Pairs.{goes_straight}
use Rattle.segment_switch.specs.declared.kind.LinkKind.TheVariants.{Core, Parent, Child}
use Rattle.hop_check.specs.Beaconing.{beta_at, hop_at}
use Rattle.net_laws.specs.PathSegments.{AreUnexpired, AsEntry, HaveByteMacs, PathSegment, IsBeaconed, IsJoint, IsMet, IsPathOver, entry_at, fields_of, met, part, route_over, segments_of}
use Rattle.net_laws.specs.Stretch.{HopsHold}
use Rattle.process_packet.specs.Network.{own_link}
use Rattle.net_laws.specs.Net.{Agrees, Joined, Net, Router, end_at, router_at}
use Rattle.net_laws.specs.Configured.{AreNumbered}
use Rattle.net_laws.specs.Domain.{Domain, IsOf}
use Rattle.net_laws.specs.Route.{AreJoined, Crosses, IsBefore, IsHopOf, IsOn, IsRoute, Joins, Route, after, hop_of, info_of, last_in, way_in, way_out}
use Rattle.net_laws.proofs.HopsLemmas.{Leads, as_many, field_is, hop_is, info_is, into, is_met, is_stretch, its_key, leads, left, made_is, out_of, over, part_len, parts}
use Rattle.net_laws.proofs.MadeLemmas.{hops_hold}

-- ---- identifiers fit

chain_fits : (beta : ℕ) (mac : List ℕ) → beta < 2 ^ 16 → IsBytes mac → chain beta mac < 2 ^ 16
chain_fits beta mac fits bytes =
    let two : number_at mac 0 2 < 256 ^ 2 = number-lt mac 0 2 bytes in
    xor_of_16 beta (number_at mac 0 2) fits (omega arith)

beta_fits : (net : Net) (s : PathSegment) → IsBeaconed net s → ((j : ℕ) → j < length s.made → IsBytes (entry_at s j).field.mac) → (k : ℕ) → k ≤ length s.made → beta_at s.beta (fields_of s) k < 2 ^ 16
beta_fits net s are macs zero few = are.beta
beta_fits net s are macs (suc k) few =
    chain_fits (beta_at s.beta (fields_of s) k) (hop_at (fields_of s) k).mac (beta_fits net s are macs k (omega arith))
    (subst (λ (h : HopField). IsBytes h.mac) (sym (field_is s k)) (macs k (omega arith)))

pick : (b : Bool) (x y n : ℕ) → x < n → y < n → (if b then x else y) < n
pick true x y n one other = one
pick false x y n one other = other

pub below : (b : Bool) (i n : ℕ) → i < n → (if b then i else n - 1 - i) < n
below true i n less = less
below false i n less = omega arith

goes : (core b : Bool) → goes_straight (if core then Core else if b then Parent else Child) (if core then Core else if b then Child else Parent) ≡ true
goes true b = refl
goes false true = refl
goes false false = refl

-- ---- hop by hop

module _ (net : Net) (ss : List PathSegment) (moment : ℕ) (agrees : Agrees net) (numbered : AreNumbered net) (macs : HaveByteMacs ss) (path : IsPathOver net ss)
    (fresh : (k : ℕ) → k < length ss → AreUnexpired (part ss k) moment) where
  abbrev w : Route
  w = route_over ss

  holds : HopsHold w
  holds = hops_hold w (over ss) (λ k there. let n = parts ss in is_stretch net ss k (path.beaconed k (omega arith)))

  beta_there : (at : Place) → IsMet ss at → w.beta at < 2 ^ 16
  beta_there at there =
      let s = part ss at.segment in
      let n = as_many s in
      let one = below s.info.along at.position (length s.made) there.position in
      let k : ℕ = if s.info.along then at.position else length s.made - 1 - at.position in
      let few : k ≤ length s.made = omega arith in
      subst (λ (j : ℕ). beta_at s.beta (fields_of s) j < 2 ^ 16) (sym (made_is s at.position)) (beta_fits net s (path.beaconed at.segment there.segment) (λ j. macs at.segment j there.segment) k few)

  hop_there : (at : Place) → IsOn w at → IsHopOf net w moment at
  hop_there at on =
      let there : IsMet ss at = is_met ss at on in
      let s = part ss at.segment in
      let are : IsBeaconed net s = path.beaconed at.segment there.segment in
      let k : ℕ = if s.info.along then at.position else length s.made - 1 - at.position in
      let inside : k < length s.made = below s.info.along at.position (length s.made) there.position in
      let mac = holds.mac at on in
      let bytes : IsBytes (hop_of w at).mac = subst (λ (h : HopField). IsBytes h.mac) (sym (hop_is ss at there)) (macs at.segment k there.segment inside) in
      let beta = beta_there at there in
      let chained : chain (w.beta at) (hop_of w at).mac < 2 ^ 16 = chain_fits (w.beta at) (hop_of w at).mac beta bytes in
      record {
        mac = mac;
        unexpired = ap₂ (λ (i : InfoField) (h : HopField). is_expired i h moment) (info_is ss at) (hop_is ss at there) ∙ fresh at.segment there.segment k inside;
        key = λ r x is home. are.keys k inside r x is home ∙ sym (its_key ss at);
        fits = beta;
        fits_before = pick (info_of w at).along _ _ _ beta chained;
        fits_after = pick (info_of w at).along _ _ _ chained beta;
      }

  way_out_is : (at : Place) → IsMet ss at → way_out w at ≡ out_of (part ss at.segment).info.along (met ss at)
  way_out_is at there = ap₂ (λ (i : InfoField) (h : HopField). if i.along then h.construction_egress else h.construction_ingress) (info_is ss at) (hop_is ss at there)

  way_in_is : (at : Place) → IsMet ss at → way_in w at ≡ into (part ss at.segment).info.along (met ss at)
  way_in_is at there = ap₂ (λ (i : InfoField) (h : HopField). if i.along then h.construction_ingress else h.construction_egress) (info_is ss at) (hop_is ss at there)

  lead : (at : Place) → IsMet ss (after at) → Leads net (part ss at.segment).is_core (part ss at.segment).info.along (met ss at) (met ss (after at))
  lead at there = leads (part ss at.segment).info.along net (part ss at.segment) agrees numbered (path.beaconed at.segment there.segment) at.position there.position

  left_is : (b : Bool) (h : AsEntry) → (if b then h.sent_by else h.taken_by) ≡ left b h
  left_is b h = refl

  crosses_there : (at : Place) → IsOn w (after at) → Crosses net w at (after at)
  crosses_there at on =
      let next : IsMet ss (after at) = is_met ss (after at) on in
      let more = next.position in
      let here : IsMet ss at = record { segment = next.segment; position = omega arith } in
      let b = (part ss at.segment).info.along in
      let l : Leads net (part ss at.segment).is_core b (met ss at) (met ss (after at)) = lead at next in
      let out = way_out_is at here in
      let in' = way_in_is (after at) next in
      let some_out = l.out_there in
      let some_in = l.into_there in
      record {
        near = l.near;
        far = l.far;
        near_there = l.near_there;
        far_there = l.far_there;
        near_home = l.near_home;
        far_home = l.far_home;
        out = l.out;
        into = l.in_link;
        out_is = ap (own_link l.near.network) out ∙ l.out_is;
        into_is = ap (own_link l.far.network) in' ∙ l.into_is;
        out_kind = l.out_kind;
        into_kind = l.into_kind;
        wire = subst (λ (n : ℕ). Joined net (end_at (w.left_by at) n) (end_at (w.entered_by (after at)) (way_in w (after at)))) (sym out)
            (subst (λ (n : ℕ). Joined net (end_at (w.left_by at) (out_of b (met ss at))) (end_at (w.entered_by (after at)) n)) (sym in') l.wire);
        remote = l.remote;
        remote_back = l.remote_back;
        out_there = omega arith;
        into_there = omega arith;
        ids = holds.ids at on;
      }

  -- a router of the AS in which a stretch ends
  record Ends (at : Place) : Type 0 where
    number : ℕ
    router : Router
    there : router_at net number ≡ Some router
    home : IsOf router (w.home at)

  ends : (at : Place) → IsMet ss at → 1 ≤ at.position → Ends at
  ends at there some =
      let k = at.segment in
      let i = at.position - 1 in
      let before : i + 1 ≡ at.position = omega arith in
      let inside = there.position in
      let same : place_at k (i + 1) ≡ at = ap (place_at k) before in
      let l = lead (place_at k i) (record { segment = there.segment; position = omega arith }) in
      record { number = w.entered_by (place_at k (i + 1)); router = l.far; there = l.far_there; home = subst (λ (p : Place). IsOf l.far (w.home p)) same l.far_home }

  joins_there : (k : ℕ) → k + 1 < length ss → Joins w (last_in w k) (place_at (k + 1) 0)
  joins_there k more =
      let size = part_len ss k in
      let two = (path.beaconed k (omega arith)).two in
      let two' = (path.beaconed (k + 1) more).two in
      let last : IsMet ss (last_in w k) = record { segment = omega arith; position = omega arith } in
      let first : IsMet ss (place_at (k + 1) 0) = record { segment = more; position = omega arith } in
      let joint : IsJoint ss (last_in w k) (place_at (k + 1) 0) = record { last = omega arith; next = refl; first = refl } in
      let home = path.meets (last_in w k) (place_at (k + 1) 0) last first joint in
      let e : Ends (last_in w k) = ends (last_in w k) last (omega arith) in
      let one = (path.beaconed k (omega arith)).keys _ (below (part ss k).info.along (last_in w k).position _ last.position) e.number e.router e.there e.home in
      let other = (path.beaconed (k + 1) more).keys _ (below (part ss (k + 1)).info.along 0 _ first.position) e.number e.router e.there (subst (λ (d : Domain). IsOf e.router d) home e.home) in
      record { home = home; key = its_key ss (last_in w k) ∙ sym one ∙ other ∙ sym (its_key ss (place_at (k + 1) 0)); pair = path.pair k more }

  apart_there : (a b : Place) → IsOn w a → IsOn w b → IsBefore a b → w.home a ≡ w.home b → AreJoined w a b
  apart_there a b on-a on-b before same =
      let j : IsJoint ss a b = path.distinct a b (is_met ss a on-a) (is_met ss b on-b) before same in
      record { last = j.last ∙ sym (part_len ss a.segment); next = j.next; first = j.first }

  pub is_route : count_hops (segments_of ss) ≤ 64 → IsRoute net w moment
  is_route few =
      let n = parts ss in
      let some = path.some in
      let most = path.few in
      record {
        some = omega arith;
        few = omega arith;
        hops = λ k there. let size = part_len ss k in let two = (path.beaconed k (omega arith)).two in omega arith;
        all_hops = few;
        hop = hop_there;
        straight = λ at on some. goes (part ss at.segment).is_core (part ss at.segment).info.along;
        crosses = crosses_there;
        apart = apart_there;
        joins = λ k there. joins_there k (omega arith);
      }
