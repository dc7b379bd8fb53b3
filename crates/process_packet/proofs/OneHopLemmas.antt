-- The rows of the table of one-hop paths one after the other, and the bytes that leave.
use Rattle.std.proofs.Common.{◌≡◌, ◌≤◌, ◌<◌, ◌-◌, ◌+◌, ℕ, Bool, true, inl, inr, List, [], ◌∷◌, ◌++◌, Option, Some, None, length, take, drop, refl, sym, ap, ap₂, ◌∙◌, arith, if◌then◌else◌}
use Rattle.std.specs.Prelude.{IsErrAnd, Result, Ok, Err}
use Rattle.std.proofs.lemmas.List.{drop-drop}
use Rattle.field_rows.specs.Place.{IsBytes, text_at}
use Rattle.scion_packet.specs.Header.{front_end, header_end}
use Rattle.scion_packet.specs.OneHop.{IsOneHopPath, OneHopPacket, OneHopPath, one_hop_fault, one_hop_packet_of, one_hop_spelling, one_hop_text}
use Rattle.hop_check.specs.Mac.{mac6}
use Rattle.scion_packet.specs.Packet.{path_bytes}
use Rattle.scion_packet.specs.Path.{HopField, InfoField}
use Rattle.scion_packet.proofs.OneHopLaws.{one_hop_both_pass, one_hop_passes, one_hop_path_spelled, one_hop_written_over}
use Rattle.scion_packet.proofs.Parts.{path_are, path_between}
use Rattle.process_packet.specs.declared.cause.Cause.TheVariants as cause
use Rattle.process_packet.specs.declared.decision.Decision.TheVariants as decision
use Rattle.process_packet.specs.Decide.{decide, decision_of, is_one_hop}
use Rattle.process_packet.proofs.KindLemmas.{decided_as_one_hop, decided_as_scion}
use Rattle.process_packet.proofs.ParsedHeadersLemmas.{too_long_dropped}
use Rattle.std.proofs.lemmas.Bool.{cases_Bool}
use Rattle.std.proofs.lemmas.Bool.Decides.{Decides-ltb}
use Rattle.process_packet.specs.declared.one_hop_departure.OneHopDeparture.{OneHopDeparture}
use Rattle.process_packet.specs.declared.one_hop_departure.OneHopDeparture.TheVariants.{Leaves, Enters}
use Rattle.process_packet.specs.declared.underlay.Underlay.{Underlay}
use Rattle.process_packet.specs.declared.refusal.Refusal.{Refusal}
use Rattle.process_packet.specs.declared.refusal.Refusal.TheVariants as refusal
use Rattle.process_packet.specs.HostPort.{delivered_at}
use Rattle.process_packet.specs.LinkControl.{is_answered}
use Rattle.process_packet.specs.Network.{Network}
use Rattle.process_packet.specs.OneHopRows.{OneHopRow, OneHopVerdict, Dropped, Sent, complete, delivered, dropped_where, leave, faulty_header, faulty_path, too_long}
use Rattle.process_packet.specs.OneHopState.{OneHopState, chained, completed, exit, first, hop_from, info, is_external, one_hop_arrives, second, with_second}
use Rattle.process_packet.specs.OneHopTable.{one_hop_decision_of, one_hop_ends_as, one_hop_moved_by, one_hop_table, one_hop_verdict, or_rows, tried}
use Rattle.process_packet.specs.OneHopView.{TellsOneHop, TellsOneHopDeparture, left_path, one_hop_refused, sent_so}
use borrow.Rule.Slice.PartMut.{put_mid}

-- ---- rows

-- past one row, and at the row that ends the decision
pub one_passed : (s : OneHopState) (r : OneHopRow) (rows : List OneHopRow) → r s ≡ None → tried s (r ∷ rows) ≡ tried s rows
one_passed s r rows goes = ap (λ (o : Option OneHopVerdict). or_rows o s rows) goes

pub one_ends : (s : OneHopState) (r : OneHopRow) (rows : List OneHopRow) (v : OneHopVerdict) → r s ≡ Some v → tried s (r ∷ rows) ≡ Some v
one_ends s r rows v ends = ap (λ (o : Option OneHopVerdict). or_rows o s rows) ends

no_more : (o : Option OneHopVerdict) (s : OneHopState) → or_rows o s [] ≡ o
no_more (Some v) s = refl
no_more None s = refl

pub last_one : (s : OneHopState) (r : OneHopRow) → tried s (r ∷ []) ≡ r s
last_one s r = no_more (r s) s

-- past some rows, and stopped by one of them
past : (o : Option OneHopVerdict) (s : OneHopState) (rows more : List OneHopRow) → or_rows o s rows ≡ None → or_rows o s (rows ++ more) ≡ tried s more
past (Some v) s rows more none = absurd cc
past None s [] more none = refl
past None s (r ∷ rows) more none = past (r s) s rows more none

stop : (o : Option OneHopVerdict) (s : OneHopState) (rows more : List OneHopRow) (v : OneHopVerdict) → or_rows o s rows ≡ Some v → or_rows o s (rows ++ more) ≡ Some v
stop (Some w) s rows more v is = is
stop None s [] more v is = absurd cc
stop None s (r ∷ rows) more v is = stop (r s) s rows more v is

pub some_passed : (s : OneHopState) (rows more : List OneHopRow) → tried s rows ≡ None → tried s (rows ++ more) ≡ tried s more
some_passed s rows more none = past None s rows more none

pub some_end : (s : OneHopState) (rows more : List OneHopRow) (v : OneHopVerdict) → tried s rows ≡ Some v → tried s (rows ++ more) ≡ Some v
some_end s rows more v is = stop None s rows more v is

-- ---- a refusal that is handed on

pub row_refused : {T : Type 0} (given : Option OneHopVerdict) (result : Result T Refusal) (r : Refusal) → IsErrAnd result (λ e. e ≡ r) → given ≡ Some (one_hop_refused r)
    → TellsOneHop given result
row_refused given (Ok x) r is ends = absurd is
row_refused given (Err e) r is ends = ends ∙ ap (λ (x : Refusal). Some (one_hop_refused x)) (sym is)

pub departure_refused : (given : Option OneHopVerdict) (p : OneHopPacket) (result : Result OneHopDeparture Refusal) (r : Refusal) → IsErrAnd result (λ e. e ≡ r)
    → given ≡ Some (one_hop_refused r) → TellsOneHopDeparture given p result
departure_refused given p (Ok x) r is ends = absurd is
departure_refused given p (Err e) r is ends = ends ∙ ap (λ (x : Refusal). Some (one_hop_refused x)) (sym is)

-- ---- a control packet

pub same_control : {n m : Network} {link link' flow flow' : ℕ} {payload payload' : List ℕ} → n ≡ m → link ≡ link' → flow ≡ flow' → payload ≡ payload'
    → is_answered n link flow payload ≡ is_answered m link' flow' payload'
same_control {n} {m} {link} {link'} {flow} {flow'} {payload} {payload'} network-is link-is flow-is payload-is =
    ap₂ (λ (x : Network) (l : ℕ). is_answered x l flow payload) network-is link-is ∙ ap₂ (λ (f : ℕ) (p : List ℕ). is_answered m link' f p) flow-is payload-is

-- what is refused stays as it came
pub refused_keeps : (r : Refusal) (bytes : List ℕ) → bytes ≡ one_hop_moved_by (one_hop_refused r) bytes
refused_keeps (refusal.Answer q) bytes = refl
refused_keeps (refusal.Drop why) bytes = refl

-- ---- the bytes that leave

sent_text : (d : OneHopDeparture) (bytes : List ℕ)
    → one_hop_spelling (record (one_hop_packet_of bytes) { path = left_path d (one_hop_packet_of bytes).path }) ≡ one_hop_moved_by (sent_so d (one_hop_packet_of bytes)) bytes
sent_text (Leaves link id) bytes = refl
sent_text (Enters to second) bytes = refl

-- what is sent is spelled by the datagram with its path written over
pub leaves_so : (bytes path' : List ℕ) (begin end : ℕ) (d : OneHopDeparture) → IsBytes bytes → one_hop_fault bytes ≡ None
    → begin ≡ front_end bytes → end ≡ header_end bytes → begin ≤ end
    → ((p : OneHopPath) → IsOneHopPath p → text_at bytes begin (end - begin) ≡ one_hop_text p → path' ≡ one_hop_text (left_path d p))
    → put_mid begin (end - begin) bytes path' ≡ one_hop_moved_by (sent_so d (one_hop_packet_of bytes)) bytes
leaves_so bytes path' begin end d are sound begin-is end-is order rule =
    let same = path_between bytes begin end begin-is end-is in
    let there = one_hop_path_spelled (path_bytes bytes) (path_are bytes are) (one_hop_both_pass bytes sound).1 in
    let old = (one_hop_packet_of bytes).path in
    let text : path' ≡ one_hop_text (left_path d old) = rule old there.lawful (same ∙ there.text) in
    let ends : begin + (end - begin) ≡ header_end bytes = omega arith in
    let place : put_mid begin (end - begin) bytes path' ≡ take (front_end bytes) bytes ++ (path' ++ drop (header_end bytes) bytes) =
    ap (λ (t : List ℕ). take begin bytes ++ (path' ++ t)) (drop-drop (end - begin) begin bytes) ∙ ap₂ (λ (b e : ℕ). take b bytes ++ (path' ++ drop e bytes)) begin-is ends in
    one_hop_written_over bytes (put_mid begin (end - begin) bytes path') path' (left_path d old) are sound text place ∙ sent_text d bytes

-- ---- how it leaves

-- the second hop field by what it is made of
abbrev made : ℕ → ℕ → List ℕ → InfoField → HopField
made link expiry key i = hop_from link expiry (mac6 key i.segment_id i (hop_from link expiry []))

pub same_second : (s : OneHopState) (link expiry : ℕ) (key : List ℕ) (i : InfoField) → link ≡ s.link → expiry ≡ (first s).expiry → key ≡ s.network.key → i ≡ info s
    → made link expiry key i ≡ second s
same_second s link expiry key i link-is expiry-is key-is info-is =
    ap₂ (λ (l e : ℕ). made l e key i) link-is expiry-is ∙ ap₂ (λ (k : List ℕ) (j : InfoField). made s.link (first s).expiry k j) key-is info-is

pub enters_so : (s : OneHopState) (to : Underlay) (hop : HopField) → is_external s ≡ true → delivered_at s.network s.packet.header s.packet.payload ≡ Some to → hop ≡ second s
    → tried s (leave ∷ complete ∷ []) ≡ Some (Sent 0 (Some to) (record s.packet { path = with_second hop s.packet.path }))
enters_so s to hop external reached hop-is =
    ap (λ (b : Bool). or_rows (if b then None else Some (Sent (exit s) None (chained s))) s (complete ∷ [])) external
    ∙ ap (λ (o : Option Underlay). Some (delivered (completed s) o)) reached
    ∙ ap (λ (h : HopField). Some (Sent 0 (Some to) (record s.packet { path = with_second h s.packet.path }))) (sym hop-is)

-- ---- the whole table

-- the rows that look at the datagram as bytes, and the rows after them
abbrev datagram_rows : List OneHopRow
datagram_rows = too_long ∷ faulty_header ∷ faulty_path ∷ []

abbrev packet_rows : List OneHopRow
packet_rows = drop 3 one_hop_table

pub read_refused : (n : Network) (link : ℕ) (source : Underlay) (moment : ℕ) (bytes : List ℕ) (v : OneHopVerdict)
    → tried (one_hop_arrives n link source moment bytes) datagram_rows ≡ Some v → one_hop_verdict n link source moment bytes ≡ v
unfolding one_hop_verdict
read_refused n link source moment bytes v is = ap one_hop_ends_as (some_end (one_hop_arrives n link source moment bytes) datagram_rows packet_rows v is)

pub read_passed : (n : Network) (link : ℕ) (source : Underlay) (moment : ℕ) (bytes : List ℕ) (v : OneHopVerdict)
    → tried (one_hop_arrives n link source moment bytes) datagram_rows ≡ None → tried (one_hop_arrives n link source moment bytes) packet_rows ≡ Some v
    → one_hop_verdict n link source moment bytes ≡ v
unfolding one_hop_verdict
read_passed n link source moment bytes v none is = ap one_hop_ends_as (some_passed (one_hop_arrives n link source moment bytes) datagram_rows packet_rows none ∙ is)

-- there is room for what is written
pub path_is_32 : (bytes : List ℕ) (begin end : ℕ) → one_hop_fault bytes ≡ None → begin ≡ front_end bytes → end ≡ header_end bytes → length (text_at bytes begin (end - begin)) ≡ 32
path_is_32 bytes begin end sound begin-is end-is =
    ap length (path_between bytes begin end begin-is end-is) ∙ (one_hop_passes (path_bytes bytes) (one_hop_both_pass bytes sound).1).whole

-- ---- a datagram that is too long, by either table

one_hop_too_long : (n : Network) (link : ℕ) (source : Underlay) (moment : ℕ) (bytes : List ℕ) → 9216 < length bytes → one_hop_verdict n link source moment bytes ≡ Dropped cause.TooLong
unfolding one_hop_verdict
one_hop_too_long n link source moment bytes long =
    let s = one_hop_arrives n link source moment bytes in
    ap (λ (b : Bool). one_hop_ends_as (or_rows (dropped_where b cause.TooLong) s (drop 1 one_hop_table))) ((Decides-ltb 9216 (length bytes)).1 long)

pub too_long_for_either : (n : Network) (link : ℕ) (source : Underlay) (moment : ℕ) (bytes : List ℕ) → 9216 < length bytes → decide n link source moment bytes ≡ decision.Drop cause.TooLong
too_long_for_either n link source moment bytes long =
    elim (cases_Bool (is_one_hop n link bytes)) [
      | inl one ↦ (decided_as_one_hop n link source moment bytes one).decision ∙ ap one_hop_decision_of (one_hop_too_long n link source moment bytes long)
      | inr other ↦ (decided_as_scion n link source moment bytes other).decision ∙ ap decision_of (too_long_dropped n link source moment bytes long)
    ]
