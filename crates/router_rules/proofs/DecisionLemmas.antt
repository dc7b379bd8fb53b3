-- What the decision has to do with the verdict of the table.
use Rattle.std.proofs.Common.{◌≡◌, inl, inr, ℕ, ◌<◌, ◌+◌, ◌*◌, ◌^◌, Bool, true, false, not, ◌&&◌, ◌==◌, nat_lt, slice_index, List, ◌++◌, length, drop, Option, Some, None, if◌then◌else◌, refl, sym, ap, subst, ◌∙◌, arith}
use Rattle.std.specs.Option.{is_some, option_map}
use Rattle.std.proofs.lemmas.Bool.{cases_Bool, eq-eqb, eqb-false, eqb-true, or_left, or_right}
use Rattle.byteorder.specs.Numbers.{big_number-reads_back}
use Rattle.field_rows.specs.Place.{number_at}
use Rattle.flow_key.specs.Flow.{is_high}
use Rattle.order_laws.specs.Rules.{Decision, Drops, Sends}
use Rattle.process_packet.specs.Decide.{decision_of, decision_table, is_one_hop, moved_by, verdict, verdict_of}
use Rattle.process_packet.specs.Laws.{LeavesByItsEgress, LeftLawfully, NothingElseChanges, OnlyLawfulWays}
use Rattle.process_packet.specs.Network.{Network, has_link, network, own_link, takes_one_hop}
use Rattle.process_packet.specs.OneHopLaws.{DecidedByKind, OneHopsEnter, OneHopsKeepTheRest, OneHopsLeave}
use Rattle.process_packet.specs.OneHopRows as one_hop
use Rattle.process_packet.specs.OneHopRows.{OneHopVerdict, dropped_where}
use Rattle.process_packet.specs.OneHopState.{one_hop_arrives}
use Rattle.process_packet.specs.OneHopTable.{one_hop_decision_of, one_hop_ends_as, one_hop_moved_by, one_hop_table, one_hop_verdict, or_rows}
use Rattle.process_packet.proofs.PassingLemmas.{both_true}
use Rattle.process_packet.specs.Rows.{Verdict, Sent, Answered, Dropped, cause_of, ends_where, faulty, then_rows}
use Rattle.process_packet.specs.PacketState.{PacketState, arrives, chained, egress, is_along, is_external, turned_back}
use Rattle.process_packet.specs.declared.cause.Cause.{Cause}
use Rattle.process_packet.specs.declared.cause.Cause.TheVariants as cause
use Rattle.process_packet.specs.declared.config.Config.{Config}
use Rattle.process_packet.specs.declared.neighbours.Link.{Link}
use Rattle.process_packet.specs.declared.underlay.Underlay.{Underlay}
use Rattle.scion_packet.specs.Fault.{Fault}
use Rattle.scion_packet.specs.Header.{HeaderFields, header_fault, header_fault_as, header_of, header_text, one_hop_path, scion_path}
use Rattle.scion_packet.specs.OneHop.{OneHopPacket, one_hop_spelling, one_hop_text}
use Rattle.scion_packet.specs.Packet.{Packet, spelling}
use Rattle.scion_packet.specs.Path.{path_text}
use Rattle.router_rules.specs.Datagram.{Datagram, Parcel}
use Rattle.router_rules.specs.Laws.{is_decided, is_inspected}
use Rattle.router_rules.specs.Links.{link_index}
use Rattle.router_rules.specs.Rules.{by_decision, decided, inspected, is_urgent, kinds, path_type_of}
use Rattle.router_rules.proofs.CauseLemmas.{IsRuled, decision_ruled, fault_inspected, has_own_drop, one_hop_ruled}

abbrev pub verdict_on : Config → Datagram → Verdict
verdict_on c d = verdict (network c) d.interface d.source d.moment d.bytes

abbrev pub one_hop_verdict_on : Config → Datagram → OneHopVerdict
one_hop_verdict_on c d = one_hop_verdict (network c) d.interface d.source d.moment d.bytes

-- the decision by the table of one-hop paths, or by that of SCION paths
abbrev pub decided_by : Config → Datagram → Bool → Decision kinds
decided_by c d b =
    by_decision c d.interface (if b then one_hop_decision_of (one_hop_verdict_on c d) else decision_of (verdict_on c d))
    (if b then one_hop_moved_by (one_hop_verdict_on c d) d.bytes else moved_by (verdict_on c d) d.bytes)

-- ---- drops

pub ruled_drop : (c : Config) (from : ℕ) (bytes : List ℕ) (v : Verdict) (why : Cause) → IsRuled v → by_decision c from (decision_of v) (moved_by v bytes) ≡ Drops why → is_decided why ≡ true
ruled_drop c from bytes (Sent out to p) why ruled is = absurd cc
ruled_drop c from bytes (Answered problem) why ruled is = absurd cc
ruled_drop c from bytes (Dropped other) why ruled is = let e : other ≡ why = cc in subst (λ (x : Cause). is_decided x ≡ true) e ruled.is

one_hop_drop : (c : Config) (from : ℕ) (bytes : List ℕ) (v : OneHopVerdict) (why : Cause) → has_own_drop v ≡ true
    → by_decision c from (one_hop_decision_of v) (one_hop_moved_by v bytes) ≡ Drops why → is_decided why ≡ true
one_hop_drop c from bytes (one_hop.Sent out to p) why own is = absurd cc
one_hop_drop c from bytes (one_hop.Answered problem) why own is = absurd cc
one_hop_drop c from bytes (one_hop.Dropped other) why own is = let e : other ≡ why = cc in subst (λ (x : Cause). is_decided x ≡ true) e own

drop_by_kind : (c : Config) (d : Datagram) (b : Bool) (why : Cause) → decided_by c d b ≡ Drops why → is_decided why ≡ true
drop_by_kind c d true why is = one_hop_drop c d.interface d.bytes (one_hop_verdict_on c d) why (one_hop_ruled (network c) d.interface d.source d.moment d.bytes) is
drop_by_kind c d false why is = ruled_drop c d.interface d.bytes (verdict_on c d) why (decision_ruled (network c) d.interface d.source d.moment d.bytes) is

pub drop_is_decided : (c : Config) (d : Datagram) (why : Cause) → decided c d ≡ Drops why → is_decided why ≡ true
drop_is_decided c d why is = drop_by_kind c d (is_one_hop (network c) d.interface d.bytes) why is

-- ---- what a receiver refuses

too_long_dropped : (n : Network) (link : ℕ) (source : Underlay) (moment : ℕ) (bytes : List ℕ) → nat_lt 9216 (length bytes) ≡ true
    → verdict n link source moment bytes ≡ Dropped cause.TooLong
unfolding verdict
too_long_dropped n link source moment bytes long =
    let s = arrives n link source moment bytes in
    ap (λ (b : Bool). verdict_of (then_rows (ends_where b (Dropped cause.TooLong) s) (drop 1 decision_table))) long

fault_dropped : (n : Network) (link : ℕ) (source : Underlay) (moment : ℕ) (bytes : List ℕ) (f : Fault) → nat_lt 9216 (length bytes) ≡ false → header_fault bytes ≡ Some f
    → verdict n link source moment bytes ≡ Dropped (cause_of f)
unfolding verdict
fault_dropped n link source moment bytes f short fault =
    let s = arrives n link source moment bytes in
    ap (λ (b : Bool). verdict_of (then_rows (ends_where b (Dropped cause.TooLong) s) (drop 1 decision_table))) short
    ∙ ap (λ (o : Option Fault). verdict_of (then_rows (faulty o s) (drop 2 decision_table))) fault

one_hop_too_long : (n : Network) (link : ℕ) (source : Underlay) (moment : ℕ) (bytes : List ℕ) → nat_lt 9216 (length bytes) ≡ true
    → one_hop_verdict n link source moment bytes ≡ one_hop.Dropped cause.TooLong
unfolding one_hop_verdict
one_hop_too_long n link source moment bytes long =
    let s = one_hop_arrives n link source moment bytes in
    ap (λ (b : Bool). one_hop_ends_as (or_rows (dropped_where b cause.TooLong) s (drop 1 one_hop_table))) long

one_hop_fault_dropped : (n : Network) (link : ℕ) (source : Underlay) (moment : ℕ) (bytes : List ℕ) (f : Fault) → nat_lt 9216 (length bytes) ≡ false
    → header_fault_as one_hop_path bytes ≡ Some f → one_hop_verdict n link source moment bytes ≡ one_hop.Dropped (cause_of f)
unfolding one_hop_verdict
one_hop_fault_dropped n link source moment bytes f short fault =
    let s = one_hop_arrives n link source moment bytes in
    ap (λ (b : Bool). one_hop_ends_as (or_rows (dropped_where b cause.TooLong) s (drop 1 one_hop_table))) short
    ∙ ap (λ (o : Option Fault). one_hop_ends_as (or_rows (one_hop.faulty o) s (drop 2 one_hop_table))) fault

-- for this cause, by the table of either kind
dropped_by : (c : Config) (d : Datagram) (b : Bool) (why : Cause) → (b ≡ true → one_hop_verdict_on c d ≡ one_hop.Dropped why) → (b ≡ false → verdict_on c d ≡ Dropped why)
    → decided_by c d b ≡ Drops why
dropped_by c d true why one other = ap (λ (v : OneHopVerdict). by_decision c d.interface (one_hop_decision_of v) (one_hop_moved_by v d.bytes)) (one refl)
dropped_by c d false why one other = ap (λ (v : Verdict). by_decision c d.interface (decision_of v) (moved_by v d.bytes)) (other refl)

-- the path type of either kind
abbrev path_type_by : Bool → ℕ
path_type_by b = if b then one_hop_path else scion_path

by_fault : (c : Config) (d : Datagram) (b : Bool) (o : Option Fault) (why : Cause) → nat_lt 9216 (length d.bytes) ≡ false → header_fault_as (path_type_by b) d.bytes ≡ o
    → option_map cause_of o ≡ Some why → decided_by c d b ≡ Drops why
by_fault c d b None why short fault is = absurd cc
by_fault c d b (Some f) why short fault is =
    let e : cause_of f ≡ why = cc in
    dropped_by c d b why
    (λ one. one_hop_fault_dropped (network c) d.interface d.source d.moment d.bytes f short (ap (λ (x : Bool). header_fault_as (path_type_by x) d.bytes) (sym one) ∙ fault) ∙ ap (λ (x : Cause). one_hop.Dropped x) e)
    (λ other. fault_dropped (network c) d.interface d.source d.moment d.bytes f short (ap (λ (x : Bool). header_fault_as (path_type_by x) d.bytes) (sym other) ∙ fault) ∙ ap (λ (x : Cause). Dropped x) e)

by_test : (c : Config) (d : Datagram) (b long : Bool) (why : Cause) → nat_lt 9216 (length d.bytes) ≡ long
    → (if long then Some cause.TooLong else option_map cause_of (header_fault_as (path_type_by b) d.bytes)) ≡ Some why → decided_by c d b ≡ Drops why
by_test c d b true why long is =
    let e : cause.TooLong ≡ why = cc in
    dropped_by c d b why
    (λ one. one_hop_too_long (network c) d.interface d.source d.moment d.bytes long ∙ ap (λ (x : Cause). one_hop.Dropped x) e)
    (λ other. too_long_dropped (network c) d.interface d.source d.moment d.bytes long ∙ ap (λ (x : Cause). Dropped x) e)
by_test c d b false why short is = by_fault c d b (header_fault_as (path_type_by b) d.bytes) why short refl is

pub refused_is_dropped : (c : Config) (d : Datagram) (why : Cause) → inspected c d.interface d.bytes ≡ Some why → decided c d ≡ Drops why
refused_is_dropped c d why is = by_test c d (is_one_hop (network c) d.interface d.bytes) (nat_lt 9216 (length d.bytes)) why refl is

-- and for a cause of the inspection's own
refused_by : (b : Bool) (o : Option Fault) (why : Cause) → (if b then Some cause.TooLong else option_map cause_of o) ≡ Some why → is_inspected why ≡ true
refused_by true o why is = let e : cause.TooLong ≡ why = cc in subst (λ (x : Cause). is_inspected x ≡ true) e refl
refused_by false None why is = absurd cc
refused_by false (Some f) why is = let e : cause_of f ≡ why = cc in subst (λ (x : Cause). is_inspected x ≡ true) e (fault_inspected f)

pub refusal_is_inspected : (c : Config) (link : ℕ) (bytes : List ℕ) (why : Cause) → inspected c link bytes ≡ Some why → is_inspected why ≡ true
refusal_is_inspected c link bytes why is = refused_by (nat_lt 9216 (length bytes)) (header_fault_as (path_type_of c link bytes) bytes) why is

-- ---- what is sent

-- the packet that leaves
record IsSent (c : Config) (d : Datagram) (l : ℕ) (y : Parcel) : Type 0 where
  out : ℕ
  to : Option Underlay
  packet : Packet
  is : verdict_on c d ≡ Sent out to packet
  link : l ≡ link_index c out
  text : y.bytes ≡ spelling packet

sent_by : (c : Config) (d : Datagram) (v : Verdict) (l : ℕ) (y : Parcel) → verdict_on c d ≡ v → by_decision c d.interface (decision_of v) (moved_by v d.bytes) ≡ Sends l y → IsSent c d l y
sent_by c d (Answered problem) l y v is = absurd cc
sent_by c d (Dropped why) l y v is = absurd cc
sent_by c d (Sent out to p) l y v is =
    let link : l ≡ link_index c out = cc in
    let parcel : y ≡ record { came_by = d.interface; to = to; bytes = spelling p } = cc in
    record { out = out; to = to; packet = p; is = v; link = link; text = ap (λ (z : Parcel). z.bytes) parcel }

-- it leaves by a link of the router
turned_network : (b : Bool) (s : PacketState) → (if b then chained s else s).network ≡ s.network
turned_network true s = refl
turned_network false s = refl

own_has_link : (n : Network) (out : ℕ) → is_some (own_link n out) ≡ true → has_link n out ≡ true
own_has_link n out own = or_right _ _ own

internal_has_link : (n : Network) (out : ℕ) → out ≡ 0 → has_link n out ≡ true
internal_has_link n out is = or_left _ _ (eq-eqb out 0 is)

by_egress : (s : PacketState) (out : ℕ) (to : Option Underlay) → LeavesByItsEgress s out to → has_link s.network out ≡ true
by_egress s out to leaves =
    elim (cases_Bool (is_some (own_link s.network (egress s)))) [
      | inl own ↦ let e : out ≡ egress s = (leaves.own own).0 in own_has_link s.network out (ap (λ (id : ℕ). is_some (own_link s.network id)) e ∙ own)
      | inr other ↦ internal_has_link s.network out (leaves.other other).0
    ]

by_lawful_way : (s : PacketState) (out : ℕ) (to : Option Underlay) → LeftLawfully s out to → has_link s.network out ≡ true
by_lawful_way s out to (inl delivered) = internal_has_link s.network out delivered.inside
by_lawful_way s out to (inr (inl stays)) = by_egress s out to stays.leaves
by_lawful_way s out to (inr (inr changes)) = by_egress _ out to changes.leaves

-- what the test of a one-hop datagram says
one_hop_test : (n : Network) (link : ℕ) (bytes : List ℕ) → is_one_hop n link bytes ≡ true → (slice_index bytes 8 ≡ one_hop_path) × (takes_one_hop n link ≡ true)
unfolding is_one_hop
one_hop_test n link bytes is =
    let both = both_true (slice_index bytes 8 == one_hop_path) (takes_one_hop n link) is in (eqb-true (slice_index bytes 8) one_hop_path both.0, both.1)

-- what the decision sends by a link of the router
abbrev GoesByLink : Config → ℕ → Type 0
GoesByLink c l = (out : ℕ) × (l ≡ link_index c out) × (has_link (network c) out ≡ true)

scion_goes : OnlyLawfulWays → (c : Config) (d : Datagram) (l : ℕ) (y : Parcel) → decided_by c d false ≡ Sends l y → GoesByLink c l
scion_goes only c d l y is =
    let sent : IsSent c d l y = sent_by c d (verdict_on c d) l y refl is in
    let s : PacketState = arrives (network c) d.interface d.source d.moment d.bytes in
    let way = by_lawful_way (turned_back s) sent.out sent.to (only (network c) d.interface d.source d.moment d.bytes sent.out sent.to sent.packet sent.is) in
    let same : (turned_back s).network ≡ network c = turned_network (is_external s && not (is_along s)) s in
    (sent.out, sent.link, subst (λ (n : Network). has_link n sent.out ≡ true) same way)

-- a packet on a path of one hop that is sent
record IsSentOver (c : Config) (d : Datagram) (l : ℕ) (y : Parcel) : Type 0 where
  out : ℕ
  to : Option Underlay
  packet : OneHopPacket
  is : one_hop_verdict_on c d ≡ one_hop.Sent out to packet
  link : l ≡ link_index c out
  text : y.bytes ≡ one_hop_spelling packet

sent_over : (c : Config) (d : Datagram) (v : OneHopVerdict) (l : ℕ) (y : Parcel) → one_hop_verdict_on c d ≡ v
    → by_decision c d.interface (one_hop_decision_of v) (one_hop_moved_by v d.bytes) ≡ Sends l y → IsSentOver c d l y
sent_over c d (one_hop.Answered problem) l y v is = absurd cc
sent_over c d (one_hop.Dropped why) l y v is = absurd cc
sent_over c d (one_hop.Sent out to p) l y v is =
    let link : l ≡ link_index c out = cc in
    let parcel : y ≡ record { came_by = d.interface; to = to; bytes = one_hop_spelling p } = cc in
    record { out = out; to = to; packet = p; is = v; link = link; text = ap (λ (z : Parcel). z.bytes) parcel }

one_hop_goes : OneHopsLeave → OneHopsEnter → DecidedByKind → (c : Config) (d : Datagram) (l : ℕ) (y : Parcel) → slice_index d.bytes 8 ≡ one_hop_path → takes_one_hop (network c) d.interface ≡ true
    → decided_by c d true ≡ Sends l y → GoesByLink c l
one_hop_goes leave enter kind c d l y one takes is =
    let n = network c in
    let sent : IsSentOver c d l y = sent_over c d (one_hop_verdict_on c d) l y refl is in
    let says = (kind.one_hop n d.interface d.source d.moment d.bytes one ((kind.takes n d.interface).0 takes)).decision ∙ ap one_hop_decision_of sent.is in
    elim (cases_Bool (d.interface == 0)) [
      | inl inside ↦
          let may = (leave.only n d.interface d.source d.moment d.bytes sent.out sent.to one (eqb-true d.interface 0 inside) says).1 in
          (sent.out, sent.link, own_has_link n sent.out (ap (λ (o : Option Link). is_some o) may.destination.listed))
      | inr outside ↦
          let goes = enter.only n d.interface d.source d.moment d.bytes sent.out sent.to one (eqb-false d.interface 0 outside) says in
          (sent.out, sent.link, internal_has_link n sent.out goes.0)
    ]

pub leaves_by_link : OnlyLawfulWays → OneHopsLeave → OneHopsEnter → DecidedByKind → (c : Config) (d : Datagram) (l : ℕ) (y : Parcel) → decided c d ≡ Sends l y → GoesByLink c l
leaves_by_link only leave enter kind c d l y is =
    elim (cases_Bool (is_one_hop (network c) d.interface d.bytes)) [
      | inl one ↦
          let both = one_hop_test (network c) d.interface d.bytes one in
          one_hop_goes leave enter kind c d l y both.0 both.1 (subst (λ (b : Bool). decided_by c d b ≡ Sends l y) one is)
      | inr other ↦ scion_goes only c d l y (subst (λ (b : Bool). decided_by c d b ≡ Sends l y) other is)
    ]

-- ---- its band

class_read : (h : HeaderFields) (rest : List ℕ) → h.traffic_class < 2 ^ 8 → h.flow_id < 2 ^ 20 → (header_of (header_text h ++ rest)).traffic_class ≡ h.traffic_class
class_read h rest class flow =
    let word : number_at (header_text h ++ rest) 0 4 ≡ 0 * 2 ^ 28 + (h.traffic_class * 2 ^ 20 + h.flow_id) = big_number-reads_back 4 (0 * 2 ^ 28 + (h.traffic_class * 2 ^ 20 + h.flow_id)) (drop 4 (header_text h ++ rest)) (omega arith) in
    omega (arith, word)

class_kept : (h : HeaderFields) (rest bytes : List ℕ) → h ≡ header_of bytes → is_urgent (header_text h ++ rest) ≡ is_urgent bytes
class_kept h rest bytes header =
    let class : h.traffic_class ≡ (header_of bytes).traffic_class = ap (λ (g : HeaderFields). g.traffic_class) header in
    let flow : h.flow_id ≡ (header_of bytes).flow_id = ap (λ (g : HeaderFields). g.flow_id) header in
    ap is_high (class_read h rest (omega arith) (omega arith) ∙ class)

scion_keeps : NothingElseChanges → (c : Config) (d : Datagram) (l : ℕ) (y : Parcel) → decided_by c d false ≡ Sends l y → is_urgent y.bytes ≡ is_urgent d.bytes
scion_keeps nothing c d l y is =
    let sent : IsSent c d l y = sent_by c d (verdict_on c d) l y refl is in
    let p : Packet = sent.packet in
    let moved = nothing (network c) d.interface d.source d.moment d.bytes sent.out sent.to p sent.is in
    ap is_urgent sent.text ∙ class_kept p.header (path_text p.path ++ p.payload) d.bytes moved.header

one_hop_keeps : OneHopsKeepTheRest → (c : Config) (d : Datagram) (l : ℕ) (y : Parcel) → decided_by c d true ≡ Sends l y → is_urgent y.bytes ≡ is_urgent d.bytes
one_hop_keeps rest c d l y is =
    let sent : IsSentOver c d l y = sent_over c d (one_hop_verdict_on c d) l y refl is in
    let p : OneHopPacket = sent.packet in
    let same = rest (network c) d.interface d.source d.moment d.bytes sent.out sent.to p sent.is in
    ap is_urgent sent.text ∙ class_kept p.header (one_hop_text p.path ++ p.payload) d.bytes same.header

band_by : NothingElseChanges → OneHopsKeepTheRest → (c : Config) (d : Datagram) (l : ℕ) (y : Parcel) (b : Bool) → decided_by c d b ≡ Sends l y → is_urgent y.bytes ≡ is_urgent d.bytes
band_by nothing rest c d l y true is = one_hop_keeps rest c d l y is
band_by nothing rest c d l y false is = scion_keeps nothing c d l y is

pub keeps_band : NothingElseChanges → OneHopsKeepTheRest → (c : Config) (d : Datagram) (l : ℕ) (y : Parcel) → decided c d ≡ Sends l y → is_urgent y.bytes ≡ is_urgent d.bytes
keeps_band nothing rest c d l y is = band_by nothing rest c d l y (is_one_hop (network c) d.interface d.bytes) is
