-- Both hop fields of a delivered beacon are a path back.
use Rattle.std.proofs.Common.{◌≡◌, ◌≢◌, ◌⊎◌, ◌<◌, ◌+◌, ◌*◌, ℕ, zero, suc, false, List, [], ◌∷◌, length, refl, sym, ap, subst, ◌∙◌, arith, inl, inr, if◌then◌else◌}
use Rattle.std.specs.Prelude.{nat_lt}
use Rattle.hop_check.specs.Beaconing.{AreBeaconed}
use Rattle.hop_check.specs.Expiry.{is_expired}
use Rattle.hop_check.specs.Mac.{chain, mac6}
use Rattle.scion_packet.specs.OneHop.{OneHopPacket}
use Rattle.scion_packet.specs.Path.{HopField, InfoField, place_at}
use Rattle.segment_switch.specs.declared.kind.LinkKind.{LinkKind}
use Rattle.segment_switch.specs.declared.kind.LinkKind.TheVariants.{Core, Parent, Child}
use Rattle.process_packet.specs.Network.{own_link}
use Rattle.net_laws.specs.Domain.{Domain, domain_of}
use Rattle.net_laws.specs.Net.{Agrees, Joined, Net, Router, end_at}
use Rattle.net_laws.specs.OneHopStart.{IsOpenPath, LawfulOneHopStart, OneHopAt, first_of, info_of, is_core_kind, second_of, segment_back}
use Rattle.net_laws.specs.PathSegments.{AreUnexpired, AreWired, HasItsKey, IsBeaconed, IsPathOver, PathSegment, entry_at, met, part, stretch_of}
use Rattle.net_laws.specs.Stretch.{beta_met}

-- a MAC is made over the timestamp of the info field alone
same_time : (key : List ℕ) (beta : ℕ) (i j : InfoField) (h : HopField) → i.timestamp ≡ j.timestamp → mac6 key beta i h ≡ mac6 key beta j h
same_time key beta i j h same = ap (λ (t : ℕ). mac6 key beta (record i { timestamp = t }) h) same

-- The packet as it is delivered: its identifier is chained by the first hop field, and the second one is of the link by which it
-- came, good for as long as the first, with the MAC of the other AS's key.
pub record IsDeliveredSo (a : OneHopAt) (key : List ℕ) (entry : ℕ) (p : OneHopPacket) : Type 0 where
  pub first : p.path.first ≡ first_of a
  pub time : p.path.info.timestamp ≡ (info_of a).timestamp
  pub id : p.path.info.segment_id ≡ chain (info_of a).segment_id (first_of a).mac
  pub ingress : (second_of p).construction_ingress ≡ entry
  pub expiry : (second_of p).expiry ≡ (first_of a).expiry
  pub mac : (second_of p).mac ≡ mac6 key (chain (info_of a).segment_id (first_of a).mac) p.path.info (second_of p)

kind_is : (k : LinkKind) → (k ≡ Core) ⊎ (k ≡ Child) → k ≡ (if is_core_kind k then Core else Child)
kind_is Core is = refl
kind_is Child is = refl
kind_is Parent (inl is) = absurd cc
kind_is Parent (inr is) = absurd cc

module _ (net : Net) (agrees : Agrees net) (moment : ℕ) (a : OneHopAt) (s : LawfulOneHopStart net moment a) (p : OneHopPacket) (d : IsDeliveredSo a s.far.router.network.key s.entry.link p) where
  abbrev near : Router
  near = s.near.router

  abbrev far : Router
  far = s.far.router

  abbrev beta : ℕ
  beta = (info_of a).segment_id

  -- the MACs of both, whatever else the info field says
  pub beaconed : (info : InfoField) → info.timestamp ≡ (info_of a).timestamp → AreBeaconed (near.network.key ∷ far.network.key ∷ []) beta info (p.path.first ∷ second_of p ∷ [])
  beaconed info time zero there =
      subst (λ (h : HopField). h.mac ≡ mac6 near.network.key beta info h) (sym d.first) (s.mac ∙ same_time near.network.key beta (info_of a) info (first_of a) (sym time))
  beaconed info time (suc zero) there =
      d.mac
      ∙ same_time far.network.key (chain beta (first_of a).mac) p.path.info info (second_of p) (d.time ∙ sym time)
      ∙ ap (λ (h : HopField). mac6 far.network.key (chain beta h.mac) info (second_of p)) (sym d.first)
  beaconed info time (suc (suc k)) there = absurd (omega arith)

  abbrev segment : PathSegment
  segment = segment_back s.near.link.kind beta a.router near s.entry.router far p

  keys : (k : ℕ) → k < 2 → HasItsKey net (entry_at segment k)
  keys zero there r x is home = (agrees.within r a.router x near is s.near.there (record { isd = home.isd; autonomous_system = home.autonomous_system })).key
  keys (suc zero) there r x is home = (agrees.within r s.entry.router x far is s.far.there (record { isd = home.isd; autonomous_system = home.autonomous_system })).key
  keys (suc (suc k)) there r x is home = absurd (omega arith)

  wire : Joined net (end_at a.router p.path.first.construction_egress) (end_at s.entry.router (second_of p).construction_ingress)
  wire =
      subst (λ (l : ℕ). Joined net (end_at a.router p.path.first.construction_egress) (end_at s.entry.router l)) (sym d.ingress)
      (subst (λ (h : HopField). Joined net (end_at a.router h.construction_egress) s.entry) (sym d.first) s.wire)

  module _ (kind : (s.near.link.kind ≡ Core) ⊎ (s.near.link.kind ≡ Child)) where
    wired : (k : ℕ) → k + 1 < 2 → AreWired net segment.is_core (entry_at segment k) (entry_at segment (k + 1))
    wired zero more = record {
      sender = near;
      sender_is = s.near.there;
      sender_home = record { isd = refl; autonomous_system = refl };
      taker = far;
      taker_is = s.far.there;
      taker_home = record { isd = refl; autonomous_system = refl };
      link = s.near.link;
      link_is = ap (λ (h : HopField). own_link near.network h.construction_egress) d.first ∙ s.near.listed;
      kind = kind_is s.near.link.kind kind;
      wire = wire;
    }
    wired (suc k) more = absurd (omega arith)

    is_beaconed : IsBeaconed net segment
    is_beaconed = record {
      two = omega arith;
      beta = s.lawful.path.info.1.1.0.0;
      keys = keys;
      macs = beaconed (record p.path.info { along = false }) d.time;
      wired = wired;
    }

    each : (k : ℕ) → k < 1 → IsBeaconed net (part (segment ∷ []) k)
    each zero there = is_beaconed
    each (suc k) there = absurd (omega arith)

    module _ (apart : domain_of near ≢ domain_of far) where
      abbrev home : ℕ → ℕ → Domain
      home k i = (met (segment ∷ []) (place_at k i)).home

      twice : (k l i j : ℕ) → k < 1 → l < 1 → i < 2 → j < 2 → i < j → home k i ≡ home l j → ⊥
      twice zero zero zero (suc zero) k l i j less same = apart (sym same)
      twice zero zero zero zero k l i j less same = absurd (omega arith)
      twice zero zero zero (suc (suc m)) k l i j less same = absurd (omega arith)
      twice zero zero (suc zero) zero k l i j less same = absurd (omega arith)
      twice zero zero (suc zero) (suc zero) k l i j less same = absurd (omega arith)
      twice zero zero (suc zero) (suc (suc m)) k l i j less same = absurd (omega arith)
      twice zero zero (suc (suc n)) m k l i j less same = absurd (omega arith)
      twice zero (suc q) n m k l i j less same = absurd (omega arith)
      twice (suc r) q n m k l i j less same = absurd (omega arith)

      two : (k : ℕ) → k < 1 → length (part (segment ∷ []) k).made ≡ 2
      two zero there = refl
      two (suc k) there = absurd (omega arith)

      is_path : IsPathOver net (segment ∷ [])
      is_path = record {
        some = omega arith;
        few = omega arith;
        beaconed = each;
        meets = λ x y on-x on-y joint. let there = on-y.segment in let next = joint.next in absurd (omega arith);
        pair = λ k more. absurd (omega arith);
        distinct = λ x y on-x on-y before same.
            let k-x = on-x.segment in
            let k-y = on-y.segment in
            let n-x = two x.segment k-x in
            let n-y = two y.segment k-y in
            let i-x = on-x.position in
            let i-y = on-y.position in
            elim before [
              | inl less ↦ absurd (omega arith)
              | inr both ↦ absurd (twice x.segment y.segment x.position y.position k-x k-y (omega arith) (omega arith) both.1 same)
            ];
      }

      module _ (later : ℕ) (fresh : is_expired p.path.info p.path.first later ≡ false) where
        unexpired : (k : ℕ) → k < 1 → AreUnexpired (part (segment ∷ []) k) later
        unexpired zero there zero inside = fresh
        unexpired zero there (suc zero) inside =
            ap (λ (e : ℕ). nat_lt (2 * p.path.info.timestamp + 675 * (1 + e)) (2 * later)) (d.expiry ∙ ap (λ (h : HopField). h.expiry) (sym d.first)) ∙ fresh
        unexpired zero there (suc (suc j)) inside = absurd (omega arith)
        unexpired (suc k) there j inside = absurd (omega arith)

        identifiers : (k : ℕ) → k < 1 → (part (segment ∷ []) k).info.segment_id ≡ beta_met (stretch_of (part (segment ∷ []) k)) 0
        identifiers zero there = d.id ∙ ap (λ (h : HopField). chain beta h.mac) (sym d.first)
        identifiers (suc k) there = absurd (omega arith)

        pub opens : IsOpenPath net (segment ∷ []) later
        opens = record { path = is_path; unexpired = unexpired; identifiers = identifiers }
