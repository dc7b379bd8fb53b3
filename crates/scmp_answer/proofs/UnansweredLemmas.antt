-- An answer of type 1 or 4 is known for one, and isn't taken for a request.
use Rattle.std.proofs.Common.{◌≡◌, ◌⊎◌, ◌==◌, ◌&&◌, not, ℕ, Bool, true, false, List, [], ◌∷◌, ◌++◌, ◌<◌, cond, eqb, length, slice_index, Option, Some, None, refl, sym, ap, ap₂, ◌∙◌, inl, inr, if◌then◌else◌, arith}
use Rattle.std.specs.Prelude.{is_some, nat_le}
use Rattle.std.proofs.lemmas.Bool.{eqb-true, lt-ltb, ne_eqb}
use Rattle.field_rows.specs.Place.{number_at}
use Rattle.field_rows.specs.Row.{rows}
use Rattle.scion_header.specs.Upper.{upper_of}
use Rattle.scion_header.specs.Upper as uppers
use Rattle.scion_header.specs.declared.upper.Upper.TheVariants.{Other}
use Rattle.scion_packet.specs.Extensions.{Layer, upper_layer}
use Rattle.scion_packet.specs.Header.{HeaderFields, HostAddress}
use Rattle.scion_packet.specs.Packet.{Packet, packet_of}
use Rattle.process_packet.specs.declared.cause.Cause.TheVariants.{NoAnswer, NoWayBack}
use Rattle.process_packet.specs.declared.decision.Decision.TheVariants as decision
use Rattle.process_packet.specs.declared.decision.Problem.{Problem}
use Rattle.process_packet.specs.declared.underlay.Underlay.{Underlay}
use Rattle.process_packet.proofs.ControlLemmas.{answered_as_scion}
use Rattle.process_packet.specs.Decide.{decide, decision_of, verdict}
use Rattle.process_packet.specs.Network.{Network}
use Rattle.process_packet.specs.PacketState.{PacketState}
use Rattle.process_packet.specs.Problems.{IsProblem}
use Rattle.process_packet.specs.Request.{is_request, request, request_of}
use Rattle.process_packet.specs.Rows as rows_of
use Rattle.process_packet.specs.Rows.{Verdict}
use Rattle.process_packet.proofs.ProblemLemmas.{problems_lawful}
use Rattle.scmp_answer.specs.Checksum.{checksum, summed}
use Rattle.scmp_answer.specs.Message.{message, numbers_of, parameter_problem_table, quote, traceroute_reply_table, unreachable_table}
use Rattle.scmp_answer.specs.Reply.{Dropped, Reply, Sent, answer_header, answer_packet, header_len, is_left_unanswered, may_be_error, reply, sent_back}
use Rattle.scmp_answer.specs.Unanswered.{ErrorsAreLeftUnanswered, MayBeError, NoErrorIsAnswered}
use Rattle.scmp_answer.specs.WayBack.{has_no_way_back, way_back}
use Rattle.scmp_answer.proofs.ReplyLemmas.{unanswered}

-- ---- the message

-- Bytes after a header that names SCMP: an error message, and no request.
record IsError (payload : List ℕ) : Type 0 where
  known : may_be_error (upper_of (upper_layer 202 payload)) ≡ true
  no_request : is_request 202 payload ≡ false

third_false : (a b d : Bool) (x y : Option (ℕ × ℕ)) → (if a && b && false && d then x else y) ≡ y
third_false true true d x y = refl
third_false true false d x y = refl
third_false false b d x y = refl

none_asked : (m : List ℕ) → (slice_index m 0 == 130) ≡ false → is_request 202 m ≡ false
none_asked m other =
    let numbers : ℕ × ℕ = (number_at m 4 2, number_at m 6 2) in
    let some : Option (ℕ × ℕ) = Some numbers in
    let none : Option (ℕ × ℕ) = None in
    ap (λ (b : Bool). is_some {T = ℕ × ℕ} (if (202 == 202) && nat_le 24 (length m) && b && (slice_index m 1 == 0) then some else none)) other
    ∙ ap (λ (o : Option (ℕ × ℕ)). is_some o) (third_false (202 == 202) (nat_le 24 (length m)) (slice_index m 1 == 0) some none)

error_of : (x y : Bool) (here : HostAddress) (n : ℕ × ℕ) (code pointer c : ℕ) (q : List ℕ) → x ≡ false
    → IsError (rows (cond x (traceroute_reply_table here n.0 n.1 pointer c) (cond y (unreachable_table code c) (parameter_problem_table code pointer c))) ++ q)
error_of true y here n code pointer c q is = absurd cc
error_of false true here n code pointer c q is = record { known = refl; no_request = let m = rows (unreachable_table code c) ++ q in none_asked m refl }
error_of false false here n code pointer c q is = record { known = refl; no_request = let m = rows (parameter_problem_table code pointer c) ++ q in none_asked m refl }

not_131 : (k : ℕ) → (k ≡ 1) ⊎ (k ≡ 4) → (k == 131) ≡ false
not_131 k (inl one) = ap (λ (n : ℕ). n == 131) one
not_131 k (inr four) = ap (λ (n : ℕ). n == 131) four

is_error : (here : HostAddress) (p : Packet) (len : ℕ) (problem : Problem) (bytes : List ℕ) (c : ℕ) → (problem.kind ≡ 1) ⊎ (problem.kind ≡ 4) → IsError (message here p len problem bytes c)
is_error here p len problem bytes c kind =
    error_of (eqb problem.kind 131) (eqb problem.kind 1) here (numbers_of (request p.header.next_header p.payload)) problem.code problem.pointer c (quote len problem bytes) (not_131 problem.kind kind)

-- ---- where it comes to

pub sent_is : (a b : Bool) (r : Reply) (out : ℕ) (to : Option Underlay) (p : Packet) → (if a then Dropped NoAnswer else if b then Dropped NoWayBack else r) ≡ Sent out to p → r ≡ Sent out to p
sent_is true b r out to p is = absurd cc
sent_is false true r out to p is = absurd cc
sent_is false false r out to p is = is

pub answer_of : (here : HostAddress) (link : ℕ) (source : Underlay) (bytes : List ℕ) (problem : Problem) (out : ℕ) (to : Option Underlay) (answer : Packet)
    → reply here link source bytes problem ≡ Sent out to answer → answer_packet here (packet_of bytes) (way_back link (packet_of bytes).path) bytes problem ≡ answer
unfolding reply
answer_of here link source bytes problem out to answer sent =
    let p = packet_of bytes in
    let a = answer_packet here p (way_back link p.path) bytes problem in
    let back : sent_back link source a ≡ Sent out to answer = sent_is (is_left_unanswered p problem) (has_no_way_back link p.path) (sent_back link source a) out to answer sent in
    cc

told : (v : Verdict) (q : Problem) → decision_of v ≡ decision.Answer q → v ≡ rows_of.Answered q
told (rows_of.Sent out to p) q says = absurd cc
told (rows_of.Answered r) q says = let same : r ≡ q = cc in ap (λ (x : Problem). rows_of.Answered x) same
told (rows_of.Dropped c) q says = absurd cc

asks_none : (k : Bool) (e : Bool) → k ≡ false → e ≡ true → (not k && e) ≡ true
asks_none true e other is = absurd cc
asks_none false e other is = is

asked_for : {s : PacketState} (q : Problem) → IsProblem s q → q.kind ≡ 131 → is_request s.header.next_header s.payload ≡ true
asked_for q (IsProblem.unreachable one) reply = absurd (omega arith)
asked_for q (IsProblem.parameter four) reply = absurd (omega arith)
asked_for q (IsProblem.reply_at_entry kind code asked) reply = asked.request
asked_for q (IsProblem.reply_at_exit u kind code asked) reply = asked.request

-- a reply goes to a request alone
no_reply_by : (b : Bool) (n : Network) (link : ℕ) (source : Underlay) (moment : ℕ) (bytes : List ℕ) (q : Problem) → decide n link source moment bytes ≡ decision.Answer q
    → is_request (packet_of bytes).header.next_header (packet_of bytes).payload ≡ false → (q.kind == 131) ≡ b → b ≡ false
no_reply_by true n link source moment bytes q says quiet is =
    let kind : q.kind ≡ 131 = eqb-true q.kind 131 is in
    let as-scion = answered_as_scion n link source moment bytes q says (λ bfd. absurd (omega (arith, kind, bfd))) in
    let lawful = problems_lawful n link source moment bytes q (told (verdict n link source moment bytes) q as-scion) in
    let asked : is_request (packet_of bytes).header.next_header (packet_of bytes).payload ≡ true = asked_for q lawful kind in
    let never : true ≡ false = sym asked ∙ quiet in never
no_reply_by false n link source moment bytes q says quiet is = refl

no_reply : (n : Network) (link : ℕ) (source : Underlay) (moment : ℕ) (bytes : List ℕ) (q : Problem) → decide n link source moment bytes ≡ decision.Answer q
    → is_request (packet_of bytes).header.next_header (packet_of bytes).payload ≡ false → (q.kind == 131) ≡ false
no_reply n link source moment bytes q says quiet = no_reply_by (q.kind == 131) n link source moment bytes q says quiet refl

pub left_unanswered : ErrorsAreLeftUnanswered
left_unanswered here there n link link' source source' moment bytes bytes' problem problem' out to answer sent kind bears says =
    let p = packet_of bytes in
    let arrived = packet_of bytes' in
    let way = way_back link p.path in
    let len = header_len here p.header way in
    let unsummed = message here p len problem bytes 0 in
    let payload = message here p len problem bytes (checksum (summed (answer_header here p.header len (length unsummed)) unsummed)) in
    let same : answer_packet here p way bytes problem ≡ answer = answer_of here link source bytes problem out to answer sent in
    let next : arrived.header.next_header ≡ 202 = ap (λ (h : HeaderFields). h.next_header) bears.header ∙ ap (λ (x : Packet). x.header.next_header) (sym same) in
    let text : arrived.payload ≡ payload = bears.payload ∙ ap (λ (x : Packet). x.payload) (sym same) in
    let error : IsError payload = is_error here p len problem bytes _ kind in
    let known : may_be_error (upper_of (upper_layer arrived.header.next_header arrived.payload)) ≡ true =
    ap₂ (λ (k : ℕ) (t : List ℕ). may_be_error (upper_of (upper_layer k t))) next text ∙ error.known in
    let quiet : is_request arrived.header.next_header arrived.payload ≡ false = ap₂ is_request next text ∙ error.no_request in
    let other : (problem'.kind == 131) ≡ false = no_reply n link' source' moment bytes' problem' says quiet in
    unanswered there link' source' bytes' problem' (asks_none (problem'.kind == 131) _ other known)

-- ---- whoever sent it

-- a message of SCMP with this type
asks_not : (l : Layer) → (slice_index l.bytes 0 == 130) ≡ false → is_some {T = ℕ × ℕ} (request_of (Some l)) ≡ false
asks_not l other =
    let numbers : ℕ × ℕ = (number_at l.bytes 4 2, number_at l.bytes 6 2) in
    let some : Option (ℕ × ℕ) = Some numbers in
    let none : Option (ℕ × ℕ) = None in
    ap (λ (b : Bool). is_some {T = ℕ × ℕ} (if (l.protocol == 202) && nat_le 24 (length l.bytes) && b && (slice_index l.bytes 1 == 0) then some else none)) other
    ∙ ap (λ (o : Option (ℕ × ℕ)). is_some o) (third_false (l.protocol == 202) (nat_le 24 (length l.bytes)) (slice_index l.bytes 1 == 0) some none)

-- What may be an error is known for one, and isn't a request.
record IsKnown (p : Packet) : Type 0 where
  known : may_be_error (upper_of (upper_layer p.header.next_header p.payload)) ≡ true
  no_request : is_request p.header.next_header p.payload ≡ false

typed : (l : Layer) (kind : ℕ) (others : List ℕ) → l.protocol ≡ 202 → l.bytes ≡ kind ∷ others → kind < 128 → may_be_error (upper_of (Some l)) ≡ true
typed l kind others scmp bytes small =
    ap₂ (λ (n : ℕ) (bs : List ℕ). may_be_error (if n == 202 then uppers.message bs else Other)) scmp bytes ∙ lt-ltb kind 128 small

untyped : (l : Layer) → l.protocol ≡ 202 → l.bytes ≡ [] → may_be_error (upper_of (Some l)) ≡ true
untyped l scmp bytes = ap₂ (λ (n : ℕ) (bs : List ℕ). may_be_error (if n == 202 then uppers.message bs else Other)) scmp bytes

known : (p : Packet) → MayBeError p → IsKnown p
known p (MayBeError.error l kind others found scmp bytes small) = record {
  known = ap (λ (o : Option Layer). may_be_error (upper_of o)) found ∙ typed l kind others scmp bytes small;
  no_request = ap (λ (o : Option Layer). is_some {T = ℕ × ℕ} (request_of o)) found
      ∙ asks_not l (ap (λ (bs : List ℕ). slice_index bs 0 == 130) bytes ∙ ne_eqb kind 130 (λ same. absurd (omega arith)));
}
known p (MayBeError.no_type l found scmp bytes) = record {
  known = ap (λ (o : Option Layer). may_be_error (upper_of o)) found ∙ untyped l scmp bytes;
  no_request = ap (λ (o : Option Layer). is_some {T = ℕ × ℕ} (request_of o)) found ∙ asks_not l (ap (λ (bs : List ℕ). slice_index bs 0 == 130) bytes);
}
known p (MayBeError.cut none) = record {
  known = ap (λ (o : Option Layer). may_be_error (upper_of o)) none;
  no_request = ap (λ (o : Option Layer). is_some {T = ℕ × ℕ} (request_of o)) none;
}

pub none_answered : NoErrorIsAnswered
none_answered here n link source moment bytes problem carries says =
    let is : IsKnown (packet_of bytes) = known (packet_of bytes) carries in
    let other : (problem.kind == 131) ≡ false = no_reply n link source moment bytes problem says is.no_request in
    unanswered here link source bytes problem (asks_none (problem.kind == 131) _ other is.known)
