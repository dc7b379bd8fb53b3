-- What the table of one-hop paths sends: no row refused it, so it shows its conditions; and what shows them is sent.
use Rattle.std.proofs.Common.{◌≡◌, ◌≢◌, ◌&&◌, ◌==◌, not, ℕ, Bool, true, false, List, [], ◌∷◌, drop, Option, Some, None, slice_index, refl, sym, ap, ap₂, subst, ◌∙◌, inl, inr, if◌then◌else◌}
use Rattle.std.proofs.lemmas.Bool.{cases_Bool, eq-eqb, eqb-true}
use Rattle.std.proofs.lemmas.Bool.Decides.{Decides-eqb, not_from_Decides}
use Rattle.scion_packet.specs.Fault.{Fault}
use Rattle.scion_packet.specs.Header.{header_fault_as, one_hop_path}
use Rattle.scion_packet.specs.OneHop.{OneHopPacket, one_hop_fault, one_hop_packet_of, one_hop_path_fault, one_hop_spelling}
use Rattle.scion_packet.specs.Packet.{first_fault, path_bytes}
use Rattle.scion_packet.proofs.HeaderSpelled.{header_type}
use Rattle.scion_packet.proofs.OneHopLaws.{one_hop_both_pass, one_hop_pass_both}
use Rattle.process_packet.specs.declared.cause.Cause.{Cause}
use Rattle.process_packet.specs.declared.decision.Decision.TheVariants as decision
use Rattle.process_packet.specs.declared.decision.Problem.{Problem}
use Rattle.process_packet.specs.declared.underlay.Underlay.{Underlay}
use Rattle.process_packet.specs.Decide.{decide, decision_of, is_one_hop, moved, scion_decide, verdict}
use Rattle.process_packet.specs.HostPort.{delivered_at, host_port_of}
use Rattle.process_packet.specs.Network.{Network, takes_one_hop}
use Rattle.process_packet.specs.OneHopLaws.{DecidedByKind, EntersTo, HasPathOf, IsOneHop, IsUsable, LeadsTo, MayEnterTo, MayLeaveBy}
use Rattle.process_packet.specs.OneHopRows as row
use Rattle.process_packet.specs.OneHopRows.{Answered, Dropped, OneHopRow, OneHopVerdict, Sent, are_ends_lawful, begins_here, complete, delivered, dropped_where, ends_where, faulty, leave}
use Rattle.process_packet.specs.OneHopState.{OneHopState, chained, completed, exit, is_external, one_hop_arrives}
use Rattle.process_packet.specs.OneHopTable.{one_hop_decision_of, one_hop_ends_as, one_hop_moved_by, one_hop_table, one_hop_verdict, or_rows, tried}
use Rattle.process_packet.specs.PacketState.{arrives}
use Rattle.process_packet.specs.Rows as scion
use Rattle.process_packet.specs.Rows.{Verdict, cause_of}
use Rattle.process_packet.proofs.ConditionLemmas.{refuted}
use Rattle.process_packet.proofs.HostLemmas.{reached, reaches}
use Rattle.process_packet.proofs.KindLemmas.{decided_as_one_hop, decided_as_scion, has_scion_path, other_kind}
use Rattle.process_packet.proofs.LawLemmas.{came_in, told}
use Rattle.process_packet.proofs.OneHopConditionLemmas.{inside_takes, led_to, none_takes, outside_takes, takes_so}
use Rattle.process_packet.proofs.OneHopLemmas.{one_passed}
use Rattle.process_packet.proofs.OneHopTestLemmas.{ends_asked_inside, ends_asked_outside, exit_asked, far_end_asked, has_other_ends, has_other_exit, has_other_mac, has_other_time, host_asked, inside, is_for_other, is_from_other, is_link_control, is_not_whole, is_too_long, lets, lets_other, mac_asked, outside, router_asked, short_asked, shown, time_asked, whole_asked}

-- ---- a row after the other

abbrev rest : ℕ → List OneHopRow
rest k = drop k one_hop_table

-- rows, begun with what one of them says, end in a packet that is sent
abbrev Sends : Option OneHopVerdict → OneHopState → List OneHopRow → ℕ → Option Underlay → OneHopPacket → Type 0
Sends o s rows out to p = one_hop_ends_as (or_rows o s rows) ≡ Sent out to p

abbrev IsSent : OneHopVerdict → Type 0
IsSent (Sent out to p) = Unit {0}
IsSent (Answered q) = ⊥
IsSent (Dropped why) = ⊥

dropped_not_sent : (why : Cause) (out : ℕ) (to : Option Underlay) (p : OneHopPacket) → Dropped why ≡ Sent out to p → ⊥
dropped_not_sent why out to p e = subst IsSent (sym e) tt

answered_not_sent : (q : Problem) (out : ℕ) (to : Option Underlay) (p : OneHopPacket) → Answered q ≡ Sent out to p → ⊥
answered_not_sent q out to p e = subst IsSent (sym e) tt

-- what a row says that sends nothing: to go on, an answer, or a drop
data SendsNothing : Option OneHopVerdict → Type 0 where
  goes_on : SendsNothing None
  answers : (q : Problem) → SendsNothing (Some (Answered q))
  drops : (why : Cause) → SendsNothing (Some (Dropped why))

dropping : (t : Bool) (why : Cause) → SendsNothing (dropped_where t why)
dropping true why = SendsNothing.drops why
dropping false why = SendsNothing.goes_on

-- of the row for control packets
controlling : (t b : Bool) (q : Problem) (why : Cause) → SendsNothing (ends_where t (if b then Answered q else Dropped why))
controlling true true q why = SendsNothing.answers q
controlling true false q why = SendsNothing.drops why
controlling false b q why = SendsNothing.goes_on

at_fault : (f : Option Fault) → SendsNothing (faulty f)
at_fault None = SendsNothing.goes_on
at_fault (Some f) = SendsNothing.drops (cause_of f)

-- such a row let go on what was sent
passed : (o : Option OneHopVerdict) → SendsNothing o → (s : OneHopState) (rows : List OneHopRow) (out : ℕ) (to : Option Underlay) (p : OneHopPacket)
    → Sends o s rows out to p → (o ≡ None) × Sends None s rows out to p
passed _ SendsNothing.goes_on s rows out to p sent = (refl, sent)
passed _ (SendsNothing.answers q) s rows out to p sent = absurd (answered_not_sent q out to p sent)
passed _ (SendsNothing.drops why) s rows out to p sent = absurd (dropped_not_sent why out to p sent)

no_fault : (f : Option Fault) → faulty f ≡ None → f ≡ None
no_fault None none = refl
no_fault (Some f) none = absurd cc

-- ---- up to the MAC's row

-- Each of these rows lets it go on.
record IsLetThrough (s : OneHopState) : Type 0 where
  short : row.too_long s ≡ None
  header : row.faulty_header s ≡ None
  path : row.faulty_path s ≡ None
  whole : row.wrong_payload_length s ≡ None
  sender : row.wrong_underlay_source s ≡ None
  ends : row.wrong_ends s ≡ None
  other : row.link_control s ≡ None
  begins : row.wrong_exit s ≡ None
  far : row.wrong_far_end s ≡ None
  timely : row.wrong_time s ≡ None
  authentic : row.wrong_mac s ≡ None

let_through : (s : OneHopState) (out : ℕ) (to : Option Underlay) (p : OneHopPacket) → Sends None s one_hop_table out to p
    → IsLetThrough s × Sends None s (leave ∷ complete ∷ []) out to p
let_through s out to p sent =
    let short = passed (row.too_long s) (dropping _ _) s (rest 1) out to p sent in
    let header = passed (row.faulty_header s) (at_fault _) s (rest 2) out to p short.1 in
    let path = passed (row.faulty_path s) (at_fault _) s (rest 3) out to p header.1 in
    let whole = passed (row.wrong_payload_length s) (dropping _ _) s (rest 4) out to p path.1 in
    let sender = passed (row.wrong_underlay_source s) (dropping _ _) s (rest 5) out to p whole.1 in
    let ends = passed (row.wrong_ends s) (dropping _ _) s (rest 6) out to p sender.1 in
    let other = passed (row.link_control s) (controlling _ _ _ _) s (rest 7) out to p ends.1 in
    let begins = passed (row.wrong_exit s) (dropping _ _) s (rest 8) out to p other.1 in
    let far = passed (row.wrong_far_end s) (dropping _ _) s (rest 9) out to p begins.1 in
    let timely = passed (row.wrong_time s) (dropping _ _) s (rest 10) out to p far.1 in
    let authentic = passed (row.wrong_mac s) (dropping _ _) s (rest 11) out to p timely.1 in (
      record {
        short = short.0;
        header = header.0;
        path = path.0;
        whole = whole.0;
        sender = sender.0;
        ends = ends.0;
        other = other.0;
        begins = begins.0;
        far = far.0;
        timely = timely.0;
        authentic = authentic.0;
      },
      authentic.1,
    )

reaches_the_end : (s : OneHopState) → IsLetThrough s → tried s one_hop_table ≡ tried s (leave ∷ complete ∷ [])
reaches_the_end s is =
    one_passed s row.too_long (rest 1) is.short
    ∙ one_passed s row.faulty_header (rest 2) is.header
    ∙ one_passed s row.faulty_path (rest 3) is.path
    ∙ one_passed s row.wrong_payload_length (rest 4) is.whole
    ∙ one_passed s row.wrong_underlay_source (rest 5) is.sender
    ∙ one_passed s row.wrong_ends (rest 6) is.ends
    ∙ one_passed s row.link_control (rest 7) is.other
    ∙ one_passed s row.wrong_exit (rest 8) is.begins
    ∙ one_passed s row.wrong_far_end (rest 9) is.far
    ∙ one_passed s row.wrong_time (rest 10) is.timely
    ∙ one_passed s row.wrong_mac (rest 11) is.authentic

-- ---- how it leaves

record IsSame (out out' : ℕ) (to to' : Option Underlay) (p p' : OneHopPacket) : Type 0 where
  link : out ≡ out'
  address : to ≡ to'
  packet : p ≡ p'

same_sent : (out out' : ℕ) (to to' : Option Underlay) (p p' : OneHopPacket) → Sent out to p ≡ Sent out' to' p' → IsSame out out' to to' p p'
same_sent out out' to to' p p' e = record { link = cc; address = cc; packet = cc }

-- the row by which it leaves, for a packet from either side
leaves_by : (b : Bool) (s : OneHopState) (out : ℕ) (to : Option Underlay) (p : OneHopPacket) → is_external s ≡ b → Sends None s (leave ∷ complete ∷ []) out to p
    → Sends (if b then None else Some (Sent (exit s) None (chained s))) s (complete ∷ []) out to p
leaves_by b s out to p is sent = subst (λ (e : Bool). Sends (if e then None else Some (Sent (exit s) None (chained s))) s (complete ∷ []) out to p) is sent

leaves_as : (b : Bool) (s : OneHopState) → is_external s ≡ b
    → tried s (leave ∷ complete ∷ []) ≡ or_rows (if b then None else Some (Sent (exit s) None (chained s))) s (complete ∷ [])
leaves_as b s is = ap (λ (e : Bool). or_rows (if e then None else Some (Sent (exit s) None (chained s))) s (complete ∷ [])) is

pub record WentIn (s : OneHopState) (out : ℕ) (to : Option Underlay) (p : OneHopPacket) : Type 0 where
  pub link : out ≡ 0
  pub at : Underlay
  pub address : to ≡ Some at
  pub reached : delivered_at s.network s.packet.header s.packet.payload ≡ Some at
  pub packet : completed s ≡ p

went_in_by : (s : OneHopState) (o : Option Underlay) (out : ℕ) (to : Option Underlay) (p : OneHopPacket) → delivered_at s.network s.packet.header s.packet.payload ≡ o
    → delivered (completed s) o ≡ Sent out to p → WentIn s out to p
went_in_by s None out to p none sent = absurd (dropped_not_sent _ out to p sent)
went_in_by s (Some at) out to p there sent =
    let same = same_sent 0 out (Some at) to (completed s) p sent in
    record { link = sym same.link; at = at; address = sym same.address; reached = there; packet = same.packet }

-- ---- its conditions

usable : (s : OneHopState) → IsLetThrough s → one_hop_fault s.bytes ≡ None → IsUsable s
usable s is sound =
    let on-time = shown (has_other_time s) _ (time_asked s) is.timely in
    record {
      short = shown (is_too_long s) _ (short_asked s) is.short;
      sound = sound;
      whole = shown (is_not_whole s) _ (whole_asked s) is.whole;
      in_time = on-time.0;
      begun = on-time.1;
    }

no_faults : (s : OneHopState) → IsLetThrough s → one_hop_fault s.bytes ≡ None
no_faults s is =
    one_hop_pass_both s.bytes (no_fault (header_fault_as one_hop_path s.bytes) is.header) (no_fault (one_hop_path_fault (path_bytes s.bytes)) is.path)

may_leave : (s : OneHopState) → s.link ≡ 0 → IsLetThrough s → MayLeaveBy s (exit s)
may_leave s zero is = record {
  usable = usable s is (no_faults s is);
  inside = zero;
  source = shown (has_other_ends s) _ (ends_asked_inside s zero) is.ends;
  destination = shown (is_for_other s) _ (far_end_asked s zero) is.far;
  begins = (shown (has_other_exit s) _ (exit_asked s zero) is.begins).1;
  leads = refl;
  authentic = shown (has_other_mac s) _ (mac_asked s zero) is.authentic;
}

may_enter : (s : OneHopState) (at : Underlay) → s.link ≢ 0 → IsLetThrough s → delivered_at s.network s.packet.header s.packet.payload ≡ Some at → MayEnterTo s at
may_enter s at other is there =
    let ends = shown (has_other_ends s) _ (ends_asked_outside s other) is.ends in
    record {
      usable = usable s is (no_faults s is);
      outside = other;
      sender = shown (is_from_other s) _ (router_asked s other) is.sender;
      source = ends.1;
      destination = ends.0;
      other = shown (is_link_control s) _ (host_asked s other) is.other;
      reached = reaches s.network (host_port_of s.network s.packet.header.next_header s.packet.payload) s.packet.header.destination at there;
    }

-- ---- and back

timely : (s : OneHopState) → IsUsable s → row.wrong_time s ≡ None
timely s is = lets (has_other_time s) _ (time_asked s) (is.in_time, is.begun)

whole : (s : OneHopState) → IsUsable s → row.wrong_payload_length s ≡ None
whole s is = lets (is_not_whole s) _ (whole_asked s) is.whole

short : (s : OneHopState) → IsUsable s → row.too_long s ≡ None
short s is = lets (is_too_long s) _ (short_asked s) is.short

lets_leave : (s : OneHopState) (out : ℕ) → MayLeaveBy s out → IsLetThrough s
lets_leave s out is =
    let zero = is.inside in
    let from-inside = inside s zero in
    let there = s.packet.header.destination in
    let both = one_hop_both_pass s.bytes is.usable.sound in
    let leads : exit s ≡ out = is.leads in
    let far = subst (λ (l : ℕ). LeadsTo s.network l there) (sym leads) is.destination in
    record {
      short = short s is.usable;
      header = ap faulty both.0;
      path = ap faulty both.1;
      whole = whole s is.usable;
      sender = lets_other (is_external s) _ _ from-inside;
      ends = lets (has_other_ends s) _ (ends_asked_inside s zero) is.source;
      other = lets_other (is_external s) _ _ from-inside;
      begins = lets (has_other_exit s) _ (exit_asked s zero) (led_to s.network (exit s) there far, is.begins);
      far = lets (is_for_other s) _ (far_end_asked s zero) far;
      timely = timely s is.usable;
      authentic = lets (has_other_mac s) _ (mac_asked s zero) is.authentic;
    }

lets_enter : (s : OneHopState) (at : Underlay) → MayEnterTo s at → IsLetThrough s
lets_enter s at is =
    let other = is.outside in
    let not-inside : not (is_external s) ≡ false = ap not (outside s other) in
    let both = one_hop_both_pass s.bytes is.usable.sound in
    record {
      short = short s is.usable;
      header = ap faulty both.0;
      path = ap faulty both.1;
      whole = whole s is.usable;
      sender = lets (is_from_other s) _ (router_asked s other) is.sender;
      ends = lets (has_other_ends s) _ (ends_asked_outside s other) (is.destination, is.source);
      other = lets (is_link_control s) _ (host_asked s other) is.other;
      begins = lets_other (not (is_external s)) _ _ not-inside;
      far = lets_other (not (is_external s)) _ _ not-inside;
      timely = timely s is.usable;
      authentic = lets_other (not (is_external s)) _ _ not-inside;
    }

-- ---- a datagram on a path of one hop that is sent

scion_sound : (n : Network) (link : ℕ) (source : Underlay) (moment : ℕ) (bytes : List ℕ) (out : ℕ) (to : Option Underlay) (v : Verdict)
    → verdict n link source moment bytes ≡ v → decision_of v ≡ decision.Send out to → first_fault bytes ≡ None
scion_sound n link source moment bytes out to (scion.Sent l a p) is says = (came_in (arrives n link source moment bytes) l a p (told n link source moment bytes l a p is)).authorised.sound
scion_sound n link source moment bytes out to (scion.Answered q) is says = absurd cc
scion_sound n link source moment bytes out to (scion.Dropped why) is says = absurd cc

-- the other table sends none
by_its_table : (n : Network) (link : ℕ) (source : Underlay) (moment : ℕ) (bytes : List ℕ) (out : ℕ) (to : Option Underlay) → IsOneHop bytes
    → decide n link source moment bytes ≡ decision.Send out to → is_one_hop n link bytes ≡ true
by_its_table n link source moment bytes out to one says =
    elim (cases_Bool (is_one_hop n link bytes)) [
      | inl is ↦ is
      | inr other ↦
          let as-scion : scion_decide n link source moment bytes ≡ decision.Send out to = sym (decided_as_scion n link source moment bytes other).decision ∙ says in
          absurd (has_scion_path bytes (scion_sound n link source moment bytes out to (verdict n link source moment bytes) refl as-scion) one)
    ]

of_decision : (v : OneHopVerdict) (out : ℕ) (to : Option Underlay) → one_hop_decision_of v ≡ decision.Send out to → (p : OneHopPacket) × (v ≡ Sent out to p)
of_decision (Sent l a p) out to says =
    let link : l ≡ out = cc in
    let address : a ≡ to = cc in
    (p, ap₂ (λ (x : ℕ) (y : Option Underlay). Sent x y p) link address)
of_decision (Answered q) out to says = absurd cc
of_decision (Dropped why) out to says = absurd cc

-- The table sends it, and these bytes leave.
pub record TableSends (n : Network) (link : ℕ) (source : Underlay) (moment : ℕ) (bytes : List ℕ) (out : ℕ) (to : Option Underlay) : Type 0 where
  pub packet : OneHopPacket
  pub verdict : one_hop_verdict n link source moment bytes ≡ Sent out to packet
  pub left : moved n link source moment bytes ≡ one_hop_spelling packet

pub table_sends : (n : Network) (link : ℕ) (source : Underlay) (moment : ℕ) (bytes : List ℕ) (out : ℕ) (to : Option Underlay) → IsOneHop bytes
    → decide n link source moment bytes ≡ decision.Send out to → TableSends n link source moment bytes out to
table_sends n link source moment bytes out to one says =
    let decided = decided_as_one_hop n link source moment bytes (by_its_table n link source moment bytes out to one says) in
    let sent = of_decision (one_hop_verdict n link source moment bytes) out to (sym decided.decision ∙ says) in
    record { packet = sent.0; verdict = sent.1; left = decided.bytes_are ∙ ap (λ (v : OneHopVerdict). one_hop_moved_by v bytes) sent.1 }

one_hop_told : (n : Network) (link : ℕ) (source : Underlay) (moment : ℕ) (bytes : List ℕ) (out : ℕ) (to : Option Underlay) (p : OneHopPacket)
    → one_hop_verdict n link source moment bytes ≡ Sent out to p → Sends None (one_hop_arrives n link source moment bytes) one_hop_table out to p
unfolding one_hop_verdict
one_hop_told n link source moment bytes out to p sent = sent

pub ends_so : (n : Network) (link : ℕ) (source : Underlay) (moment : ℕ) (bytes : List ℕ) (v : OneHopVerdict)
    → tried (one_hop_arrives n link source moment bytes) one_hop_table ≡ Some v → one_hop_verdict n link source moment bytes ≡ v
unfolding one_hop_verdict
ends_so n link source moment bytes v ends = ap one_hop_ends_as ends

-- From inside it left by its first hop field's link, chained.
pub record SentOut (s : OneHopState) (out : ℕ) (to : Option Underlay) (p : OneHopPacket) : Type 0 where
  pub may : MayLeaveBy s out
  pub address : to ≡ None
  pub packet : chained s ≡ p

-- From outside it went to its host or service, completed.
pub record SentIn (s : OneHopState) (out : ℕ) (to : Option Underlay) (p : OneHopPacket) : Type 0 where
  pub may : EntersTo s to
  pub link : out ≡ 0
  pub packet : completed s ≡ p

pub sent_out : (n : Network) (link : ℕ) (source : Underlay) (moment : ℕ) (bytes : List ℕ) (out : ℕ) (to : Option Underlay) (p : OneHopPacket) → link ≡ 0
    → one_hop_verdict n link source moment bytes ≡ Sent out to p → SentOut (one_hop_arrives n link source moment bytes) out to p
sent_out n link source moment bytes out to p zero sent =
    let s = one_hop_arrives n link source moment bytes in
    let through = let_through s out to p (one_hop_told n link source moment bytes out to p sent) in
    let same = same_sent (exit s) out None to (chained s) p (leaves_by false s out to p (inside s zero) through.1) in
    record { may = subst (λ (o : ℕ). MayLeaveBy s o) same.link (may_leave s zero through.0); address = sym same.address; packet = same.packet }

pub sent_in : (n : Network) (link : ℕ) (source : Underlay) (moment : ℕ) (bytes : List ℕ) (out : ℕ) (to : Option Underlay) (p : OneHopPacket) → link ≢ 0
    → one_hop_verdict n link source moment bytes ≡ Sent out to p → SentIn (one_hop_arrives n link source moment bytes) out to p
sent_in n link source moment bytes out to p other sent =
    let s = one_hop_arrives n link source moment bytes in
    let through = let_through s out to p (one_hop_told n link source moment bytes out to p sent) in
    let went = went_in_by s (delivered_at s.network s.packet.header s.packet.payload) out to p refl (leaves_by true s out to p (outside s other) through.1) in
    record { may = record { at = went.at; address = went.address; entered = may_enter s went.at other through.0 went.reached }; link = went.link; packet = went.packet }

-- ---- what shows its conditions is sent

pub is_of_its_table : (n : Network) (link : ℕ) (bytes : List ℕ) → one_hop_fault bytes ≡ None → takes_one_hop n link ≡ true → is_one_hop n link bytes ≡ true
unfolding is_one_hop
is_of_its_table n link bytes sound takes =
    ap₂ (λ (a b : Bool). a && b) (eq-eqb (slice_index bytes 8) one_hop_path (header_type one_hop_path bytes (one_hop_both_pass bytes sound).0)) takes

pub leaves_if : (n : Network) (link : ℕ) (source : Underlay) (moment : ℕ) (bytes : List ℕ) (out : ℕ) → MayLeaveBy (one_hop_arrives n link source moment bytes) out
    → decide n link source moment bytes ≡ decision.Send out None
leaves_if n link source moment bytes out is =
    let s = one_hop_arrives n link source moment bytes in
    let takes = inside_takes n link out s.packet.header.destination is.inside is.destination in
    let decided = decided_as_one_hop n link source moment bytes (is_of_its_table n link bytes is.usable.sound takes) in
    let leads : exit s ≡ out = is.leads in
    let ends = reaches_the_end s (lets_leave s out is) ∙ leaves_as false s (inside s is.inside) in
    decided.decision
    ∙ ap one_hop_decision_of (ends_so n link source moment bytes (Sent (exit s) None (chained s)) ends)
    ∙ ap (λ (l : ℕ). decision.Send l None) leads

pub enters_if : (n : Network) (link : ℕ) (source : Underlay) (moment : ℕ) (bytes : List ℕ) (at : Underlay) → MayEnterTo (one_hop_arrives n link source moment bytes) at
    → decide n link source moment bytes ≡ decision.Send 0 (Some at)
enters_if n link source moment bytes at is =
    let s = one_hop_arrives n link source moment bytes in
    let takes = outside_takes n link s.packet.header.source is.outside is.source in
    let decided = decided_as_one_hop n link source moment bytes (is_of_its_table n link bytes is.usable.sound takes) in
    let h = s.packet.header in
    let there : delivered_at n h s.packet.payload ≡ Some at = reached n (host_port_of n h.next_header s.packet.payload) h.destination at is.reached in
    let ends = reaches_the_end s (lets_enter s at is) ∙ leaves_as true s (outside s is.outside) ∙ ap (λ (o : Option Underlay). Some (delivered (completed s) o)) there in
    decided.decision ∙ ap one_hop_decision_of (ends_so n link source moment bytes (Sent 0 (Some at) (completed s)) ends)

-- ---- the rest of the packet

pub keeps_the_rest : (n : Network) (link : ℕ) (source : Underlay) (moment : ℕ) (bytes : List ℕ) (out : ℕ) (to : Option Underlay) (p : OneHopPacket)
    → one_hop_verdict n link source moment bytes ≡ Sent out to p → HasPathOf (one_hop_packet_of bytes) p
keeps_the_rest n link source moment bytes out to p sent =
    let old = one_hop_packet_of bytes in
    elim (cases_Bool (link == 0)) [
      | inl zero ↦
          let is = sent_out n link source moment bytes out to p (eqb-true link 0 zero) sent in
          subst (λ (q : OneHopPacket). HasPathOf old q) is.packet (record { header = refl; payload = refl })
      | inr other ↦
          let is = sent_in n link source moment bytes out to p (not_from_Decides (link == 0) (Decides-eqb link 0) other) sent in
          subst (λ (q : OneHopPacket). HasPathOf old q) is.packet (record { header = refl; payload = refl })
    ]

-- ---- by which table

not_taken : (n : Network) (link : ℕ) (bytes : List ℕ) → takes_one_hop n link ≡ false → is_one_hop n link bytes ≡ false
unfolding is_one_hop
not_taken n link bytes none = and_false (slice_index bytes 8 == one_hop_path) (takes_one_hop n link) none
  where
    and_false : (a b : Bool) → b ≡ false → (a && b) ≡ false
    and_false true b e = e
    and_false false b e = refl

taken : (n : Network) (link : ℕ) (bytes : List ℕ) → IsOneHop bytes → takes_one_hop n link ≡ true → is_one_hop n link bytes ≡ true
unfolding is_one_hop
taken n link bytes one takes = ap₂ (λ (a b : Bool). a && b) (eq-eqb (slice_index bytes 8) one_hop_path one) takes

pub by_kind : DecidedByKind
by_kind = record {
  scion = λ n link source moment bytes other. decided_as_scion n link source moment bytes (other_kind n link bytes other);
  not_carried = λ n link source moment bytes none. decided_as_scion n link source moment bytes (not_taken n link bytes (none_takes n link none));
  not_taken = λ n link source moment bytes none. decided_as_scion n link source moment bytes (not_taken n link bytes (refuted (takes_one_hop n link) (λ is. none ((takes_so n link).0 is))));
  one_hop = λ n link source moment bytes one takes. decided_as_one_hop n link source moment bytes (taken n link bytes one ((takes_so n link).1 takes));
  takes = takes_so;
}
