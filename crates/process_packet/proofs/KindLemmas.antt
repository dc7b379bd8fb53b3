-- By which table a datagram is decided.
use Rattle.std.proofs.Common.{◌≡◌, ◌≢◌, ◌&&◌, ℕ, Bool, true, false, List, None, slice_index, refl, sym, ap, subst, ◌∙◌, if◌then◌else◌, arith, inl, inr}
use Rattle.std.proofs.lemmas.Bool.{cases_Bool, ne_eqb}
use Rattle.scion_packet.specs.Header.{one_hop_path, scion_path}
use Rattle.scion_packet.specs.Packet.{first_fault}
use Rattle.scion_packet.proofs.HeaderSpelled.{header_passes}
use Rattle.scion_packet.proofs.PacketLaws.{both_pass}
use Rattle.process_packet.specs.declared.decision.Decision.{Decision}
use Rattle.process_packet.specs.declared.decision.Decision.TheVariants as decision
use Rattle.process_packet.specs.declared.decision.Problem.{Problem}
use Rattle.process_packet.specs.declared.underlay.Underlay.{Underlay}
use Rattle.process_packet.specs.Decide.{decide, decision_of, is_one_hop, moved, moved_by, scion_decide, scion_moved, verdict}
use Rattle.process_packet.specs.Network.{Network, takes_one_hop}
use Rattle.process_packet.specs.Routed.{IsAnswer}
use Rattle.process_packet.specs.Rows as rows
use Rattle.process_packet.specs.Rows.{Verdict}
use Rattle.process_packet.specs.OneHopRows.{OneHopVerdict, Sent, Answered, Dropped}
use Rattle.process_packet.specs.OneHopTable.{one_hop_decision_of, one_hop_moved_by, one_hop_verdict}
use Rattle.process_packet.specs.OneHopLaws.{IsDecidedAsOneHop, IsDecidedAsScion}

pub other_kind : (n : Network) (link : ℕ) (bytes : List ℕ) → slice_index bytes 8 ≢ one_hop_path → is_one_hop n link bytes ≡ false
unfolding is_one_hop
other_kind n link bytes other = ap (λ (b : Bool). b && takes_one_hop n link) (ne_eqb (slice_index bytes 8) one_hop_path other)

-- a datagram without a fault of its header is on a SCION path
pub has_scion_path : (bytes : List ℕ) → first_fault bytes ≡ None → slice_index bytes 8 ≢ one_hop_path
has_scion_path bytes none same = let passes = header_passes scion_path bytes (both_pass bytes none).0 in omega (arith, passes.path_type, same)

pub decided_as_scion : (n : Network) (link : ℕ) (source : Underlay) (moment : ℕ) (bytes : List ℕ) → is_one_hop n link bytes ≡ false → IsDecidedAsScion n link source moment bytes
decided_as_scion n link source moment bytes other = record {
  decision = ap (λ (b : Bool). if b then one_hop_decision_of (one_hop_verdict n link source moment bytes) else scion_decide n link source moment bytes) other;
  bytes_are = ap (λ (b : Bool). if b then one_hop_moved_by (one_hop_verdict n link source moment bytes) bytes else scion_moved n link source moment bytes) other;
}

pub decided_as_one_hop : (n : Network) (link : ℕ) (source : Underlay) (moment : ℕ) (bytes : List ℕ) → is_one_hop n link bytes ≡ true → IsDecidedAsOneHop n link source moment bytes
decided_as_one_hop n link source moment bytes is = record {
  decision = ap (λ (b : Bool). if b then one_hop_decision_of (one_hop_verdict n link source moment bytes) else scion_decide n link source moment bytes) is;
  bytes_are = ap (λ (b : Bool). if b then one_hop_moved_by (one_hop_verdict n link source moment bytes) bytes else scion_moved n link source moment bytes) is;
}

is_answered : (d : Decision) → IsAnswer d → (q : Problem) × (d ≡ decision.Answer q)
is_answered (decision.Send link to) asks = absurd asks
is_answered (decision.Answer q) asks = (q, refl)
is_answered (decision.Drop why) asks = absurd asks

unchanged_scion : (v : Verdict) (bytes : List ℕ) (q : Problem) → decision_of v ≡ decision.Answer q → moved_by v bytes ≡ bytes
unchanged_scion (rows.Sent link to p) bytes q says = absurd cc
unchanged_scion (rows.Answered r) bytes q says = refl
unchanged_scion (rows.Dropped why) bytes q says = refl

unchanged_one_hop : (v : OneHopVerdict) (bytes : List ℕ) (q : Problem) → one_hop_decision_of v ≡ decision.Answer q → one_hop_moved_by v bytes ≡ bytes
unchanged_one_hop (Sent link to p) bytes q says = absurd cc
unchanged_one_hop (Answered r) bytes q says = refl
unchanged_one_hop (Dropped why) bytes q says = refl

-- what is answered stays as it came
pub answered_unchanged : (n : Network) (link : ℕ) (source : Underlay) (moment : ℕ) (bytes : List ℕ) (q : Problem) → decide n link source moment bytes ≡ decision.Answer q
    → moved n link source moment bytes ≡ bytes
answered_unchanged n link source moment bytes q says =
    elim (cases_Bool (is_one_hop n link bytes)) [
      | inl is ↦
          let as_one_hop = decided_as_one_hop n link source moment bytes is in
          as_one_hop.bytes_are ∙ unchanged_one_hop (one_hop_verdict n link source moment bytes) bytes q (sym as_one_hop.decision ∙ says)
      | inr other ↦
          let as_scion = decided_as_scion n link source moment bytes other in
          as_scion.bytes_are ∙ unchanged_scion (verdict n link source moment bytes) bytes q (sym as_scion.decision ∙ says)
    ]

pub asked_unchanged : (n : Network) (link : ℕ) (source : Underlay) (moment : ℕ) (bytes : List ℕ) → IsAnswer (decide n link source moment bytes) → moved n link source moment bytes ≡ bytes
asked_unchanged n link source moment bytes asks =
    let told = is_answered (decide n link source moment bytes) asks in answered_unchanged n link source moment bytes told.0 told.1
