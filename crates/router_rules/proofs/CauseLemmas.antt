-- Row after row: each packet is dropped for a cause of the decision's own.
use Rattle.std.proofs.Common.{◌≡◌, ℕ, Bool, true, false, ◌&&◌, ◌==◌, if◌then◌else◌, List, [], ◌∷◌, drop, Option, Some, None, refl}
use Rattle.std.specs.List.{AllByRecursion}
use Rattle.process_packet.specs.Decide.{decision_table, verdict, verdict_of}
use Rattle.process_packet.specs.HostPort.{delivered_at}
use Rattle.process_packet.specs.LinkControl.{bfd_protocol, control_answer, is_answered}
use Rattle.process_packet.specs.Network.{Network}
use Rattle.process_packet.specs.Rows.{Verdict, Sent, Answered, Dropped, RowResult, GoesOn, Ends, Row, cause_of, delivered, delivery, ends_where, expired, faulty, leave, sent_on, sent_to, switch, then_rows, wrong_mac, wrong_pair}
use Rattle.process_packet.specs.PacketState.{PacketState, arrives, changed_over, packet}
use Rattle.process_packet.specs.OneHopRows as one_hop
use Rattle.process_packet.specs.OneHopRows.{OneHopRow, OneHopVerdict, dropped_where, ends_where as one_hop_ends_where}
use Rattle.process_packet.specs.OneHopRows.{delivered as one_hop_delivered, faulty as one_hop_faulty}
use Rattle.process_packet.specs.OneHopState.{OneHopState, completed, exit, is_external, one_hop_arrives}
use Rattle.process_packet.specs.OneHopState.{chained as one_hop_chained}
use Rattle.process_packet.specs.OneHopTable.{one_hop_ends_as, one_hop_table, one_hop_verdict, or_rows}
use Rattle.scion_packet.specs.OneHop.{OneHopPacket}
use Rattle.process_packet.specs.declared.cause.Cause.{Cause}
use Rattle.process_packet.specs.declared.cause.Cause.TheVariants as cause
use Rattle.process_packet.specs.declared.decision.Problem.{Problem}
use Rattle.process_packet.specs.declared.underlay.Underlay.{Underlay}
use Rattle.scion_packet.specs.Fault.{Fault, TooShort, WrongVersion, WrongPathType, WrongLength, WrongPath, PeeringSegment}
use Rattle.scion_packet.specs.Packet.{Packet}
use Rattle.router_rules.specs.Laws.{is_decided, is_inspected}

abbrev has_own_cause : Verdict → Bool
has_own_cause (Sent out to p) = true
has_own_cause (Answered problem) = true
has_own_cause (Dropped why) = is_decided why

pub record IsRuled (v : Verdict) : Type 0 where
  pub is : has_own_cause v ≡ true

abbrev AreRuled : RowResult → Type 0
AreRuled (GoesOn s) = Unit {0}
AreRuled (Ends v) = IsRuled v

record IsRuledTurn (t : RowResult) : Type 0 where
  is : AreRuled t

abbrev IsRuledRow : Row → Type 0
IsRuledRow r = (s : PacketState) → IsRuledTurn (r s)

all_ruled : (t : RowResult) (rows : List Row) → IsRuledTurn t → AllByRecursion IsRuledRow rows → IsRuledTurn (then_rows t rows)
all_ruled (Ends v) rows h all = h
all_ruled (GoesOn s) [] h all = h
all_ruled (GoesOn s) (r ∷ rows) h all = all_ruled (r s) rows (all.0 s) all.1

verdict_ruled : (t : RowResult) → IsRuledTurn t → IsRuled (verdict_of t)
verdict_ruled (Ends v) h = h.is
verdict_ruled (GoesOn s) h = record { is = refl }

-- ---- rows

sent : (out : ℕ) (to : Option Underlay) (p : Packet) → IsRuled (Sent out to p)
sent out to p = record { is = refl }

answered : (problem : Problem) → IsRuled (Answered problem)
answered problem = record { is = refl }

dropped : (why : Cause) → is_decided why ≡ true → IsRuled (Dropped why)
dropped why h = record { is = h }

goes_on : (s : PacketState) → IsRuledTurn (GoesOn s)
goes_on s = record { is = tt }

ends : (v : Verdict) → IsRuled v → IsRuledTurn (Ends v)
ends v h = record { is = h }

either : (b : Bool) (v w : Verdict) → IsRuled v → IsRuled w → IsRuled (if b then v else w)
either true v w h k = h
either false v w h k = k

either_turn : (b : Bool) (t u : RowResult) → IsRuledTurn t → IsRuledTurn u → IsRuledTurn (if b then t else u)
either_turn true t u h k = h
either_turn false t u h k = k

test_ruled : (b : Bool) (v : Verdict) (s : PacketState) → IsRuled v → IsRuledTurn (ends_where b v s)
test_ruled true v s h = ends v h
test_ruled false v s h = goes_on s

fault_ruled : (f : Fault) → is_decided (cause_of f) ≡ true
fault_ruled TooShort = refl
fault_ruled WrongVersion = refl
fault_ruled WrongPathType = refl
fault_ruled WrongLength = refl
fault_ruled WrongPath = refl
fault_ruled PeeringSegment = refl

pub fault_inspected : (f : Fault) → is_inspected (cause_of f) ≡ true
fault_inspected TooShort = refl
fault_inspected WrongVersion = refl
fault_inspected WrongPathType = refl
fault_inspected WrongLength = refl
fault_inspected WrongPath = refl
fault_inspected PeeringSegment = refl

faulty_ruled : (f : Option Fault) (s : PacketState) → IsRuledTurn (faulty f s)
faulty_ruled None s = goes_on s
faulty_ruled (Some f) s = ends _ (dropped (cause_of f) (fault_ruled f))

sent_to_ruled : (p : Packet) (at : Option Underlay) → IsRuled (sent_to p at)
sent_to_ruled p None = either _ _ _ (answered _) (answered _)
sent_to_ruled p (Some at) = sent _ _ _

delivered_ruled : (n : Network) (p : Packet) → IsRuled (delivered n p)
delivered_ruled n p = sent_to_ruled p (delivered_at n p.header p.payload)

switch_ruled : (s : PacketState) → IsRuledTurn (switch s)
switch_ruled s =
    either_turn _ _ _
    (all_ruled (GoesOn (changed_over s)) (expired ∷ wrong_mac ∷ []) (goes_on _) ((λ t. test_ruled _ _ t (answered _)), ((λ t. test_ruled _ _ t (answered _)), tt)))
    (goes_on s)

wrong_pair_ruled : (s : PacketState) → IsRuledTurn (wrong_pair s)
wrong_pair_ruled s = test_ruled _ _ s (either _ _ _ (answered _) (answered _))

on_ruled : (p : Packet) (at : Option Underlay) → IsRuled (sent_on p at)
on_ruled p None = dropped _ refl
on_ruled p (Some at) = sent _ _ _

leave_ruled : (s : PacketState) → IsRuledTurn (leave s)
leave_ruled s = either_turn _ _ _ (ends _ (either _ _ _ (dropped _ refl) (sent _ _ _))) (ends _ (on_ruled (packet s) _))

-- a row that answers or drops where its test applies
asks : (b : PacketState → Bool) (q : PacketState → Problem) → IsRuledRow (λ s. ends_where (b s) (Answered (q s)) s)
asks b q s = test_ruled (b s) _ s (answered (q s))

drops : (b : PacketState → Bool) (why : Cause) → is_decided why ≡ true → IsRuledRow (λ s. ends_where (b s) (Dropped why) s)
drops b why h s = test_ruled (b s) _ s (dropped why h)

delivery_ruled : (s : PacketState) → IsRuledTurn (delivery s)
delivery_ruled s = test_ruled _ _ s (delivered_ruled s.network (packet s))

table_ruled : AllByRecursion IsRuledRow decision_table
table_ruled =
    let leaving : AllByRecursion IsRuledRow (drop 12 decision_table) = (delivery_ruled, (switch_ruled, (asks _ _, (wrong_pair_ruled, (asks _ _, (leave_ruled, tt)))))) in
    let authority : AllByRecursion IsRuledRow (drop 9 decision_table) = ((λ s. goes_on _), (asks _ _, (asks _ _, leaving))) in
    let arriving : AllByRecursion IsRuledRow (drop 3 decision_table) = (asks _ _, (asks _ _, (asks _ _, (drops _ _ refl, (asks _ _, (asks _ _, authority)))))) in
    (drops _ _ refl, ((λ s. faulty_ruled _ s), ((λ s. faulty_ruled _ s), arriving)))

pub decision_ruled : (n : Network) (link : ℕ) (source : Underlay) (moment : ℕ) (bytes : List ℕ) → IsRuled (verdict n link source moment bytes)
unfolding verdict
decision_ruled n link source moment bytes = verdict_ruled _ (all_ruled (GoesOn (arrives n link source moment bytes)) decision_table (goes_on _) table_ruled)

-- ---- the table of one-hop paths

abbrev pub has_own_drop : OneHopVerdict → Bool
has_own_drop (one_hop.Sent out to p) = true
has_own_drop (one_hop.Answered problem) = true
has_own_drop (one_hop.Dropped why) = is_decided why

abbrev gives_own_drop : Option OneHopVerdict → Bool
gives_own_drop None = true
gives_own_drop (Some v) = has_own_drop v

record IsOwnRow (r : OneHopRow) : Type 0 where
  is : (s : OneHopState) → gives_own_drop (r s) ≡ true

all_own : (o : Option OneHopVerdict) (s : OneHopState) (rows : List OneHopRow) → gives_own_drop o ≡ true → AllByRecursion IsOwnRow rows → gives_own_drop (or_rows o s rows) ≡ true
all_own (Some v) s rows h all = h
all_own None s [] h all = h
all_own None s (r ∷ rows) h all = all_own (r s) s rows (all.0.is s) all.1

own_where : (b : Bool) (why : Cause) → is_decided why ≡ true → gives_own_drop (dropped_where b why) ≡ true
own_where true why h = h
own_where false why h = refl

own_drop : (b : OneHopState → Bool) (why : Cause) → is_decided why ≡ true → IsOwnRow (λ s. dropped_where (b s) why)
own_drop b why h = record { is = λ s. own_where (b s) why h }

-- a control packet of BFD is answered, or dropped
own_control : (b answers : Bool) (problem : Problem)
    → gives_own_drop (one_hop_ends_where b (if answers then one_hop.Answered problem else one_hop.Dropped cause.OneHopHost)) ≡ true
own_control true true problem = refl
own_control true false problem = refl
own_control false answers problem = refl

own_fault : (o : Option Fault) → gives_own_drop (one_hop_faulty o) ≡ true
own_fault None = refl
own_fault (Some f) = fault_ruled f

own_leave : (b : Bool) (s : OneHopState) → gives_own_drop (if b then None else Some (one_hop.Sent (exit s) None (one_hop_chained s))) ≡ true
own_leave true s = refl
own_leave false s = refl

own_delivery : (p : OneHopPacket) (o : Option Underlay) → has_own_drop (one_hop_delivered p o) ≡ true
own_delivery p None = refl
own_delivery p (Some at) = refl

own_table : AllByRecursion IsOwnRow one_hop_table
own_table =
    let sending : AllByRecursion IsOwnRow (drop 11 one_hop_table) =
    (record { is = λ s. own_leave (is_external s) s }, (record { is = λ s. own_delivery (completed s) (delivered_at s.network s.packet.header s.packet.payload) }, tt)) in
    let field : AllByRecursion IsOwnRow (drop 7 one_hop_table) = (own_drop _ _ refl, (own_drop _ _ refl, (own_drop _ _ refl, (own_drop _ _ refl, sending)))) in
    let control : AllByRecursion IsOwnRow (drop 6 one_hop_table) = (
      record {
        is = λ s. own_control (is_external s && s.packet.header.next_header == bfd_protocol) (is_answered s.network s.link s.packet.header.flow_id s.packet.payload) (control_answer s.link);
      },
      field,
    ) in
    let arriving : AllByRecursion IsOwnRow (drop 3 one_hop_table) = (own_drop _ _ refl, (own_drop _ _ refl, (own_drop _ _ refl, control))) in
    (own_drop _ _ refl, (record { is = λ s. own_fault _ }, (record { is = λ s. own_fault _ }, arriving)))

own_end : (o : Option OneHopVerdict) → gives_own_drop o ≡ true → has_own_drop (one_hop_ends_as o) ≡ true
own_end (Some v) h = h
own_end None h = refl

pub one_hop_ruled : (n : Network) (link : ℕ) (source : Underlay) (moment : ℕ) (bytes : List ℕ) → has_own_drop (one_hop_verdict n link source moment bytes) ≡ true
unfolding one_hop_verdict
one_hop_ruled n link source moment bytes = own_end _ (all_own None (one_hop_arrives n link source moment bytes) one_hop_table refl own_table)
