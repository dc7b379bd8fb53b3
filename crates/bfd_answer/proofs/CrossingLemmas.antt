-- An answer goes through the rows of the neighbour's table.
use Rattle.std.proofs.Common.{◌≡◌, ◌==◌, ◌&&◌, not, ℕ, Bool, true, false, List, [], ◌∷◌, length, drop, refl, sym, subst, ap, ◌∙◌, arith, Option, Some, None}
use Rattle.std.specs.Prelude.{nat_lt}
use Rattle.std.specs.Option.{option_and_then}
use Rattle.std.proofs.lemmas.Bool.{and_from, and_right, cond-true, eq-eqb, le-ltb, ne_eqb}
use Rattle.std.proofs.lemmas.Slice.Eq.{bytes_eq-Decides}
use Rattle.bfd_control.specs.ControlPacket.{control_packet_of}
use Rattle.bfd_control.specs.Reception.{is_taken}
use Rattle.bfd_control.proofs.AnswerLemmas.{taken_back}
use Rattle.scion_header.specs.declared.domain.Domain.{Domain}
use Rattle.scion_packet.specs.Fault.{Fault}
use Rattle.scion_packet.specs.Header.{header_end}
use Rattle.scion_packet.specs.OneHop.{OneHopPacket, one_hop_packet_of, one_hop_spelling}
use Rattle.scion_packet.proofs.OneHopLaws.{one_hop_both_pass}
use Rattle.process_packet.specs.declared.neighbours.Link.{Link}
use Rattle.process_packet.specs.declared.underlay.Ip.{Ip}
use Rattle.process_packet.specs.declared.underlay.Ip.TheVariants.{V4, V6}
use Rattle.process_packet.specs.declared.underlay.Underlay.{Underlay}
use Rattle.process_packet.specs.Neighbours.{link_neighbor}
use Rattle.process_packet.specs.Network.{Network, is_local, is_neighbor, is_remote, neighbor, own_link}
use Rattle.process_packet.specs.OneHopRows.{OneHopRow, OneHopVerdict, are_ends_lawful, dropped_where, faulty, faulty_header, faulty_path, too_long, wrong_ends, wrong_payload_length, wrong_underlay_source}
use Rattle.process_packet.specs.OneHopState.{OneHopState, is_external, one_hop_arrives}
use Rattle.process_packet.specs.OneHopTable.{or_rows, tried}
use Rattle.process_packet.specs.Underlay.{same_ip, same_underlay}
use Rattle.process_packet.specs.declared.cause.Cause.{Cause}
use Rattle.process_packet.specs.declared.cause.Cause.TheVariants as cause
use Rattle.bfd_answer.specs.Answer.{answer_by, answer_over, answer_packet, bfd_reply}
use Rattle.bfd_answer.specs.Crossing.{AnswersCross, ControlPacketsAreAnswered}

pub answered : ControlPacketsAreAnswered
unfolding bfd_reply
answered n link moment bytes own there listed named =
    let received = drop (header_end bytes) bytes in
    ap (λ (l : Option Link). answer_by n l moment received) listed ∙ ap (λ (d : Option Domain). answer_over n own d moment received) named

pub no_link : (n : Network) (link moment : ℕ) (bytes : List ℕ) → own_link n link ≡ None → bfd_reply n link moment bytes ≡ None
unfolding bfd_reply
no_link n link moment bytes none = ap (λ (l : Option Link). answer_by n l moment (drop (header_end bytes) bytes)) none

pub no_neighbor : (n : Network) (link moment : ℕ) (bytes : List ℕ) (own : Link) → own_link n link ≡ Some own → own.neighbor ≡ None → bfd_reply n link moment bytes ≡ None
unfolding bfd_reply
no_neighbor n link moment bytes own listed none =
    let received = drop (header_end bytes) bytes in
    ap (λ (l : Option Link). answer_by n l moment received) listed ∙ ap (λ (d : Option Domain). answer_over n own d moment received) none

-- ---- the same address

same_ip_itself : (a : Ip) → same_ip a a ≡ true
same_ip_itself (V4 bytes) = (bytes_eq-Decides bytes bytes).1 refl
same_ip_itself (V6 bytes) = (bytes_eq-Decides bytes bytes).1 refl

same_itself : (a : Underlay) → same_underlay a a ≡ true
same_itself a = and_from (a.port == a.port) (same_ip a.ip a.ip) (eq-eqb a.port a.port refl) (same_ip_itself a.ip)

-- ---- a row that doesn't end the decision

passed : (s : OneHopState) (r : OneHopRow) (rows : List OneHopRow) → r s ≡ None → tried s rows ≡ None → tried s (r ∷ rows) ≡ None
passed s r rows goes-on rest = ap (λ (o : Option OneHopVerdict). or_rows o s rows) goes-on ∙ rest

not_dropped : (b : Bool) (why : Cause) → b ≡ false → dropped_where b why ≡ None
not_dropped b why is = ap (λ (x : Bool). dropped_where x why) is

-- ---- the answer

pub crosses : AnswersCross
crosses n link moment bytes own p m end later other listed replied good outside other-is ends =
    let received = drop (header_end bytes) bytes in
    let q = answer_packet n own ends.there moment received in
    let some : Some q ≡ Some p = sym (answered n link moment bytes own ends.there listed ends.there_is) ∙ replied in
    let p-is : q ≡ p = cc in
    let text = one_hop_spelling p in
    let s = one_hop_arrives m end own.local later text in
    let read : q ≡ one_hop_packet_of text = p-is ∙ good.read_back in
    let external : is_external s ≡ true = ap not (ne_eqb end 0 outside) in
    let both = one_hop_both_pass text good.no_fault in
    let short : too_long s ≡ None = not_dropped (nat_lt 9216 (length text)) cause.TooLong (le-ltb 9216 (length text) (omega (arith, good.short))) in
    let header : faulty_header s ≡ None = ap (λ (f : Option Fault). faulty f) both.0 in
    let path : faulty_path s ≡ None = ap (λ (f : Option Fault). faulty f) both.1 in
    let payload : wrong_payload_length s ≡ None =
    ap (λ (x : OneHopPacket). dropped_where (not (x.header.payload_length == length x.payload)) cause.Header) (sym read) in
    let remote : is_remote (own_link m end) own.local ≡ true =
    ap (λ (o : Option Link). is_remote o own.local) other-is ∙ ap (λ (a : Underlay). same_underlay own.local a) ends.wire ∙ same_itself own.local in
    let source : wrong_underlay_source s ≡ None =
    not_dropped (is_external s && not (is_remote (own_link m end) own.local)) cause.UnderlaySource (and_right (is_external s) (not (is_remote (own_link m end) own.local)) (ap not remote)) in
    let for-here : is_local m q.header.destination ≡ true = and_from _ _ (eq-eqb _ _ ends.there_isd) (eq-eqb _ _ ends.there_as) in
    let neighbor-is : neighbor m end ≡ Some ends.here = ap (option_and_then link_neighbor) other-is ∙ ends.here_is in
    let from-there : is_neighbor (neighbor m end) q.header.source ≡ true =
    ap (λ (d : Option Domain). is_neighbor d q.header.source) neighbor-is ∙ and_from _ _ (eq-eqb _ _ (sym ends.here_isd)) (eq-eqb _ _ (sym ends.here_as)) in
    let lawful-q : (is_local m q.header.destination && is_neighbor (neighbor m end) q.header.source) ≡ true = and_from _ _ for-here from-there in
    let lawful : are_ends_lawful s ≡ true =
    cond-true (is_external s) _ _ external
    ∙ ap (λ (x : OneHopPacket). is_local m x.header.destination && is_neighbor (neighbor m end) x.header.source) (sym read) ∙ lawful-q in
    let between : wrong_ends s ≡ None = not_dropped (not (are_ends_lawful s)) cause.OneHopEnds (ap not lawful) in
    let carries = ap (λ (x : OneHopPacket). x.payload) (sym read) in
    record {
      passes =
          passed s too_long (faulty_header ∷ faulty_path ∷ wrong_payload_length ∷ wrong_underlay_source ∷ wrong_ends ∷ []) short
          (passed s faulty_header (faulty_path ∷ wrong_payload_length ∷ wrong_underlay_source ∷ wrong_ends ∷ []) header
          (passed s faulty_path (wrong_payload_length ∷ wrong_underlay_source ∷ wrong_ends ∷ []) path
          (passed s wrong_payload_length (wrong_underlay_source ∷ wrong_ends ∷ []) payload
          (passed s wrong_underlay_source (wrong_ends ∷ []) source (passed s wrong_ends [] between refl)))));
      protocol = ap (λ (x : OneHopPacket). x.header.next_header) (sym read);
      flow = ap (λ (x : OneHopPacket). x.header.flow_id) (sym read);
      carries = carries;
      heard = λ are some fits taken.
          subst (λ (t : List ℕ). is_taken (control_packet_of received).my_discriminator t ≡ true) (sym carries) (taken_back own.id received some fits are taken).taken;
    }
