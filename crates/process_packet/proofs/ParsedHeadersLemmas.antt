-- From the parts of a datagram to its packet.
use Rattle.std.proofs.Common.{◌≡◌, ◌≤◌, ◌<◌, ◌+◌, ◌-◌, ℕ, Bool, None, Some, Option, List, [], ◌∷◌, ◌++◌, length, take, drop, sym, subst, ap, ap₂, ◌∙◌, arith}
use Rattle.std.proofs.lemmas.Bool.Decides.{Decides-ltb}
use Rattle.std.proofs.lemmas.List.{drop-drop}
use Rattle.field_rows.specs.Place.{IsBytes, text_at}
use Rattle.path_fields.specs.declared.meta.Meta.{Meta}
use Rattle.scion_packet.specs.Fault.{Fault}
use Rattle.scion_packet.specs.Header.{front_end, header_end, header_fault}
use Rattle.scion_packet.specs.Lengths.{info_place}
use Rattle.scion_packet.specs.Packet.{packet_of, path_bytes}
use Rattle.scion_packet.specs.Path as packet
use Rattle.scion_packet.specs.Path.{PathFields, Place, hop_number, lengths_of, path_fault, path_of, path_text}
use Rattle.scion_packet.proofs.Offsets.{fields_stand}
use Rattle.scion_packet.proofs.PacketLaws.{pass_both, path_written_over}
use Rattle.scion_packet.proofs.Parts.{path_are, path_between}
use Rattle.scion_packet.proofs.PathSpelled.{path_spelled}
use Rattle.process_packet.specs.Decide.{decision_table, ends_as, moved_by, verdict, verdict_of}
use Rattle.process_packet.specs.Departure.{Departs, moved_path}
use Rattle.process_packet.specs.Network.{Network}
use Rattle.process_packet.specs.Rows.{Verdict, Dropped, GoesOn, Ends, Row, ends_where, faulty, faulty_header, faulty_path, then_rows, too_long}
use Rattle.process_packet.specs.PacketView.{refused}
use Rattle.process_packet.specs.PathHop.{IsMetaOf}
use Rattle.process_packet.specs.PacketState.{PacketState, arrives}
use Rattle.process_packet.specs.declared.cause.Cause.TheVariants as cause
use Rattle.process_packet.specs.declared.departure.Departure.{Departure}
use Rattle.process_packet.specs.declared.refusal.Refusal.{Refusal}
use Rattle.process_packet.specs.declared.refusal.Refusal.TheVariants.{Answer, Drop}
use Rattle.process_packet.specs.declared.underlay.Underlay.{Underlay}
use Rattle.process_packet.proofs.RowLemmas.{passed, stopped}
use borrow.Rule.Slice.PartMut.{put_mid}

pub meta_of : (m : Meta) (path other : List ℕ) → path ≡ other → IsBytes other → path_fault path ≡ None → m.lengths ≡ lengths_of path → m.current_info ≡ packet.current_info path
    → m.current_hop ≡ packet.current_hop path → IsMetaOf m other
meta_of m path other same are none lengths info hop =
    subst (λ (t : List ℕ). IsMetaOf m t) same (record { are = subst IsBytes (sym same) are; lawful = none; lengths = lengths; info = info; hop = hop })

-- ---- the row of the path's fault

pub path_passes : (s : PacketState) (bytes path : List ℕ) → bytes ≡ s.bytes → path ≡ path_bytes bytes → path_fault path ≡ None → faulty_path s ≡ GoesOn s
path_passes s bytes path same is none =
    let there : path_fault (path_bytes s.bytes) ≡ None = sym (ap path_fault (is ∙ ap path_bytes same)) ∙ none in
    ap (λ (f : Option Fault). faulty f s) there

pub path_fails : (s : PacketState) (bytes path : List ℕ) (fault : Fault) → bytes ≡ s.bytes → path ≡ path_bytes bytes → path_fault path ≡ Some fault → faulty_path s ≡ faulty (Some fault) s
path_fails s bytes path fault same is some =
    let there : path_fault (path_bytes s.bytes) ≡ Some fault = sym (ap path_fault (is ∙ ap path_bytes same)) ∙ some in
    ap (λ (f : Option Fault). faulty f s) there

-- ---- the bytes that leave

pub leaves : (bytes path' : List ℕ) (begin end : ℕ) (d : Departure) (v : Verdict) → IsBytes bytes → header_fault bytes ≡ None → path_fault (path_bytes bytes) ≡ None
    → begin ≡ front_end bytes → end ≡ header_end bytes → begin ≤ end → Departs d v (packet_of bytes)
    → ((p : PathFields) (at : Place) → text_at bytes begin (end - begin) ≡ path_text p → d.segment ≡ at.segment → d.number ≡ hop_number p.segments at
    → d.entered < length p.segments → d.left < length p.segments → path' ≡ path_text (moved_path d at p))
    → put_mid begin (end - begin) bytes path' ≡ moved_by v bytes
leaves bytes path' begin end d v are header path begin-is end-is order departs rule =
    let same = path_between bytes begin end begin-is end-is in
    let pb = path_bytes bytes in
    let spelled = path_spelled pb (path_are bytes are) path in
    let text : path' ≡ path_text (moved_path d departs.at (path_of pb)) =
    rule (path_of pb) departs.at (same ∙ spelled.text) departs.segment departs.number departs.entered departs.left in
    let ends : begin + (end - begin) ≡ header_end bytes = omega arith in
    let place : put_mid begin (end - begin) bytes path' ≡ take (front_end bytes) bytes ++ (path' ++ drop (header_end bytes) bytes) =
    ap (λ (t : List ℕ). take begin bytes ++ (path' ++ t)) (drop-drop (end - begin) begin bytes) ∙ ap₂ (λ (b e : ℕ). take b bytes ++ (path' ++ drop e bytes)) begin-is ends in
    path_written_over bytes (put_mid begin (end - begin) bytes path') path' (moved_path d departs.at (path_of pb)) are (pass_both bytes header path) text place
    ∙ sym (ap (λ (w : Verdict). moved_by w bytes) departs.verdict)

pub refusal_keeps : (r : Refusal) (v : Verdict) (bytes : List ℕ) → v ≡ refused r → bytes ≡ moved_by v bytes
refusal_keeps (Answer p) v bytes is = sym (ap (λ (w : Verdict). moved_by w bytes) is)
refusal_keeps (Drop cause) v bytes is = sym (ap (λ (w : Verdict). moved_by w bytes) is)

-- ---- the whole table

abbrev datagram_rows : List Row
datagram_rows = too_long ∷ faulty_header ∷ faulty_path ∷ []

-- the rows after those of the datagram
abbrev pub packet_rows : List Row
packet_rows = drop 3 decision_table

pub datagram_refused : (n : Network) (link : ℕ) (source : Underlay) (moment : ℕ) (bytes : List ℕ) (v : Verdict)
    → then_rows (GoesOn (arrives n link source moment bytes)) datagram_rows ≡ Ends v → verdict n link source moment bytes ≡ v
unfolding verdict
datagram_refused n link source moment bytes v ends = stopped (arrives n link source moment bytes) v datagram_rows packet_rows ends

pub datagram_passed : (n : Network) (link : ℕ) (source : Underlay) (moment : ℕ) (bytes : List ℕ)
    → then_rows (GoesOn (arrives n link source moment bytes)) datagram_rows ≡ GoesOn (arrives n link source moment bytes)
    → verdict n link source moment bytes ≡ ends_as (arrives n link source moment bytes) packet_rows
unfolding verdict
datagram_passed n link source moment bytes goes =
    let s = arrives n link source moment bytes in passed s s datagram_rows packet_rows goes

-- ---- room for what is written

record HasRoom (path : List ℕ) (k : ℕ) : Type 0 where
  room : info_place k + 8 ≤ length path

pub room_for : (bytes : List ℕ) (begin end k : ℕ) (m : Meta) → begin ≡ front_end bytes → end ≡ header_end bytes → IsMetaOf m (path_bytes bytes)
    → k < length (packet_of bytes).path.segments → info_place k + 8 ≤ length (text_at bytes begin (end - begin))
room_for bytes begin end k m begin-is end-is meta there =
    let stand = fields_stand (path_bytes bytes) meta.are meta.lawful in
    let room : HasRoom (path_bytes bytes) k = record { room = omega (arith, stand.whole, stand.count, there) } in
    (subst (λ (t : List ℕ). HasRoom t k) (sym (path_between bytes begin end begin-is end-is)) room).room

pub too_long_dropped : (n : Network) (link : ℕ) (source : Underlay) (moment : ℕ) (bytes : List ℕ) → 9216 < length bytes
    → verdict n link source moment bytes ≡ Dropped cause.TooLong
unfolding verdict
too_long_dropped n link source moment bytes long =
    let s = arrives n link source moment bytes in
    ap (λ (b : Bool). verdict_of (then_rows (ends_where b (Dropped cause.TooLong) s) (drop 1 decision_table))) ((Decides-ltb 9216 (length bytes)).1 long)
