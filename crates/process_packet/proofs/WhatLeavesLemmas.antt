-- What leaves is read as it was meant, and differs in five bytes.
use Rattle.std.proofs.Common.{◌≡◌, ◌⊎◌, ◌≤◌, ◌-◌, ℕ, List, ◌++◌, length, Option, refl, sym, ap, ap₂, subst, ◌∙◌, arith, inl, inr, length-append}
use Rattle.field_rows.specs.Place.{IsBytes}
use Rattle.scion_packet.specs.Header.{HeaderFields, front_end, front_len, header_text}
use Rattle.scion_packet.specs.Packet.{Packet, Spells, path_bytes, spelling}
use Rattle.scion_packet.specs.Path.{PathFields, path_text}
use Rattle.scion_packet.proofs.Offsets.{fields_stand}
use Rattle.scion_packet.proofs.PacketLaws.{both_pass, packet_only, packet_passes}
use Rattle.scion_packet.proofs.Parts.{path_are, path_lies}
use Rattle.process_packet.specs.declared.decision.Decision.TheVariants as decision
use Rattle.process_packet.specs.declared.underlay.Underlay.{Underlay}
use Rattle.process_packet.specs.Decide.{decision_of, moved_by, scion_decide, scion_moved, verdict}
use Rattle.process_packet.specs.Laws.{IsAuthorised}
use Rattle.process_packet.specs.Network.{Network}
use Rattle.process_packet.specs.Rows.{Answered, Dropped, Sent, Verdict}
use Rattle.process_packet.specs.PacketView.{with_id}
use Rattle.process_packet.specs.PacketState.{PacketState, arrives, packet}
use Rattle.process_packet.specs.WhatLeaves.{DiffersInFive, IsElsewhere, LeavesWhole}
use Rattle.process_packet.proofs.ByteLemmas.{AfterFront, IsIdPlace, IsRewritten, bytes_stay, cursor_rewritten, datagram_rewritten, ids_rewritten, rewritten_then}
use Rattle.process_packet.proofs.LawLemmas.{came_in, told}
use Rattle.process_packet.proofs.LawfulLemmas.{IsMovedFrom, moved_from, spelled}
use Rattle.process_packet.proofs.WaysLemmas.{sent_by}

-- the cursor, and the identifiers of two segments
abbrev FivePlaces : ℕ → ℕ → ℕ → Type 0
FivePlaces k j i = ((i ≡ 0) ⊎ IsIdPlace k i) ⊎ IsIdPlace j i

front_text_len : (h : HeaderFields) → length (header_text h) ≡ front_len h
front_text_len h = let d = h.destination.host in let s = h.source.host in omega (arith, length-append d s)

path_rewritten : (p q : PathFields) (first second : Option ℕ) (k j : ℕ)
    → record { reserved = p.reserved; place = q.place; segments = with_id second j (with_id first k p.segments) } ≡ q
    → IsRewritten (FivePlaces k j) (path_text p) (path_text q)
path_rewritten p q first second k j is =
    let at : PathFields = record p { place = q.place } in
    let once : PathFields = record at { segments = with_id first k p.segments } in
    let twice : PathFields = record once { segments = with_id second j once.segments } in
    let one = rewritten_then (λ (i : ℕ). i ≡ 0) (IsIdPlace k) (path_text p) (path_text at) (path_text once) (cursor_rewritten p q.place) (ids_rewritten first at k) in
    let both = rewritten_then (λ (i : ℕ). (i ≡ 0) ⊎ IsIdPlace k i) (IsIdPlace j) (path_text p) (path_text once) (path_text twice) one (ids_rewritten second once j) in
    subst (λ (r : PathFields). IsRewritten (FivePlaces k j) (path_text p) (path_text r)) is both

is_none : (bytes : List ℕ) (front k j i : ℕ) → front ≡ front_end bytes → front ≤ i → FivePlaces k j (i - front) → IsElsewhere bytes k j i → ⊥
is_none bytes front k j i is after (inl (inl cursor)) elsewhere = elsewhere.cursor (omega arith)
is_none bytes front k j i is after (inl (inr (inl high))) elsewhere = elsewhere.one_high (omega arith)
is_none bytes front k j i is after (inl (inr (inr low))) elsewhere = elsewhere.one_low (omega arith)
is_none bytes front k j i is after (inr (inl high)) elsewhere = elsewhere.other_high (omega arith)
is_none bytes front k j i is after (inr (inr low)) elsewhere = elsewhere.other_low (omega arith)

module _ (n : Network) (from : ℕ) (source : Underlay) (moment : ℕ) (bytes : List ℕ) (are : IsBytes bytes) (out : ℕ) (to : Option Underlay) (p : Packet)
    (sent : verdict n from source moment bytes ≡ Sent out to p) where
  abbrev s : PacketState
  s = arrives n from source moment bytes

  is : IsAuthorised s
  is = (came_in s out to p (told n from source moment bytes out to p sent)).authorised

  text : Spells bytes (packet s)
  text = spelled n from source moment bytes are is.sound

  moves : IsMovedFrom s p
  moves = moved_from n from source moment bytes are is.sound out to p (sent_by n from source moment bytes out to p sent)

  reads : Spells (spelling p) p
  reads = record { lawful = moves.kept.lawful; text = refl }

  abbrev places : ℕ → Type 0
  places = FivePlaces s.path.place.segment moves.exit

  abbrev front : ℕ
  front = length (header_text s.header)

  same_front : spelling p ≡ header_text s.header ++ (path_text p.path ++ s.payload)
  same_front = ap₂ (λ (h : HeaderFields) (q : List ℕ). header_text h ++ (path_text p.path ++ q)) moves.header moves.payload

  same_len : length (path_text s.path) ≡ length (path_text p.path)
  same_len =
      let whole = moves.kept.length in
      let h = header_text s.header in
      let a = length-append h (path_text s.path ++ s.payload) in
      let b = length-append (path_text s.path) s.payload in
      let c = length-append h (path_text p.path ++ s.payload) in
      let d = length-append (path_text p.path) s.payload in
      let same = ap length same_front in
      omega arith

  rewritten : IsRewritten (AfterFront front places) bytes (spelling p)
  rewritten =
      let path = path_rewritten s.path p.path moves.first moves.second s.path.place.segment moves.exit moves.path in
      let all = datagram_rewritten places (header_text s.header) (path_text s.path) (path_text p.path) s.payload same_len path in
      subst (λ (old : List ℕ). IsRewritten (AfterFront front places) old (spelling p)) (sym text.text)
      (subst (λ (new : List ℕ). IsRewritten (AfterFront front places) (spelling (packet s)) new) (sym same_front) all)

  front_is : front ≡ front_end bytes
  front_is = front_text_len s.header ∙ (path_lies bytes s.header are (both_pass bytes is.sound).0 refl).begin

  differs : DiffersInFive bytes (spelling p)
  differs =
      let stand = fields_stand (path_bytes bytes) (path_are bytes are) (both_pass bytes is.sound).1 in
      let count = stand.count in
      let there = moves.there in
      record {
        count = moves.kept.length ∙ ap length (sym text.text);
        entered = s.path.place.segment;
        exit = moves.exit;
        entered_is = refl;
        near = moves.near;
        there = omega arith;
        same = λ i elsewhere. elim (rewritten.each i) [
          | inl same ↦ same
          | inr changed ↦ absurd (is_none bytes front s.path.place.segment moves.exit i front_is changed.0.0 changed.0.1 elsewhere)
        ];
      }

  pub whole : LeavesWhole (Sent out to p) out to bytes (spelling p)
  whole = record {
    packet = p;
    verdict = refl;
    read = sym (packet_only (spelling p) p reads);
    sound = packet_passes (spelling p) p reads;
    are = bytes_stay (AfterFront front places) bytes (spelling p) rewritten are;
    few = differs;
  }

by_verdict : (n : Network) (from : ℕ) (source : Underlay) (moment : ℕ) (bytes : List ℕ) (out : ℕ) (to : Option Underlay) → IsBytes bytes → (v : Verdict)
    → verdict n from source moment bytes ≡ v → decision_of v ≡ decision.Send out to → LeavesWhole v out to bytes (moved_by v bytes)
by_verdict n from source moment bytes out to are (Sent l a p) is says =
    let link : l ≡ out = cc in
    let address : a ≡ to = cc in
    subst (λ (o : ℕ). LeavesWhole (Sent l a p) o to bytes (spelling p)) link
    (subst (λ (o : Option Underlay). LeavesWhole (Sent l a p) l o bytes (spelling p)) address (whole n from source moment bytes are l a p is))
by_verdict n from source moment bytes out to are (Answered q) is says = absurd cc
by_verdict n from source moment bytes out to are (Dropped c) is says = absurd cc

pub leaves_whole : (n : Network) (link : ℕ) (source : Underlay) (moment : ℕ) (bytes : List ℕ) (out : ℕ) (to : Option Underlay) → IsBytes bytes
    → scion_decide n link source moment bytes ≡ decision.Send out to
    → LeavesWhole (verdict n link source moment bytes) out to bytes (scion_moved n link source moment bytes)
leaves_whole n from source moment bytes out to are says = by_verdict n from source moment bytes out to are (verdict n from source moment bytes) refl says
