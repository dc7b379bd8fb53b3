-- What an answer tells.
use Rattle.std.proofs.Common.{◌≡◌, ◌≢◌, ◌⊎◌, ◌<◌, ◌-◌, ◌^◌, ◌==◌, not, ℕ, Bool, true, false, List, [], ◌++◌, cond, drop, length, slice_index, take, Option, Some, None, refl, sym, ap, subst, ◌∙◌, inl, inr, arith, if◌then◌else◌}
use Rattle.std.proofs.lemmas.Bool.{eq-eqb, ne_eqb}
use Rattle.field_rows.specs.Place.{number_at}
use Rattle.field_rows.specs.Row.{rows}
use Rattle.scion_packet.specs.Header.{HostAddress}
use Rattle.scion_packet.specs.Packet.{Packet, packet_of}
use Rattle.process_packet.specs.Request.{request}
use Rattle.process_packet.specs.declared.decision.Problem.{Problem}
use Rattle.process_packet.specs.declared.underlay.Underlay.{Underlay}
use Rattle.scmp_answer.specs.Checksum.{checksum, summed}
use Rattle.scmp_answer.specs.Message.{longest, message, numbers_of, parameter_problem_table, traceroute_reply_table, unreachable_table}
use Rattle.scmp_answer.specs.Reply.{Sent, answer_header, answer_packet, header_len, is_left_unanswered, reply, sent_back}
use Rattle.scmp_answer.specs.Telling.{AnswersTellProblems, TellsProblem}
use Rattle.scmp_answer.specs.WayBack.{has_no_way_back, is_external, way_back}
use Rattle.scmp_answer.proofs.UnansweredLemmas.{sent_is}

-- ---- the message

abbrev Kind : ℕ → Type 0
Kind k = (k ≡ 1) ⊎ ((k ≡ 4) ⊎ (k ≡ 131))

-- what its bytes tell
record Tells (bytes : List ℕ) (problem : Problem) (payload : List ℕ) : Type 0 where
  kind : slice_index payload 0 ≡ problem.kind
  code : problem.kind ≢ 131 → problem.code < 2 ^ 8 → slice_index payload 1 ≡ problem.code
  pointer : problem.kind ≡ 4 → problem.pointer < 2 ^ 16 → number_at payload 6 2 ≡ problem.pointer
  quoted : ℕ
  quote : problem.kind ≢ 131 → drop 8 payload ≡ take quoted bytes

module _ (here : HostAddress) (n : ℕ × ℕ) (problem : Problem) (c len : ℕ) (bytes : List ℕ) where
  abbrev text : Bool → Bool → List ℕ
  text x y =
      rows (cond x (traceroute_reply_table here n.0 n.1 problem.pointer c) (cond y (unreachable_table problem.code c) (parameter_problem_table problem.code problem.pointer c)))
      ++ cond x [] (take (longest - len - 8) bytes)

  tells_by : Kind problem.kind → Tells bytes problem (text (problem.kind == 131) (problem.kind == 1))
  tells_by (inl one) =
      let x : (problem.kind == 131) ≡ false = ne_eqb problem.kind 131 (λ same. absurd (omega arith)) in
      let y : (problem.kind == 1) ≡ true = eq-eqb problem.kind 1 one in
      subst (λ (b : Bool). Tells bytes problem (text b (problem.kind == 1))) (sym x)
      (subst (λ (b : Bool). Tells bytes problem (text false b)) (sym y)
      (record { kind = sym one; code = λ other small. omega arith; pointer = λ four. absurd (omega arith); quoted = longest - len - 8; quote = λ other. refl }))
  tells_by (inr (inl four)) =
      let x : (problem.kind == 131) ≡ false = ne_eqb problem.kind 131 (λ same. absurd (omega arith)) in
      let y : (problem.kind == 1) ≡ false = ne_eqb problem.kind 1 (λ same. absurd (omega arith)) in
      subst (λ (b : Bool). Tells bytes problem (text b (problem.kind == 1))) (sym x)
      (subst (λ (b : Bool). Tells bytes problem (text false b)) (sym y)
      (record { kind = sym four; code = λ other small. omega arith; pointer = λ is small. omega arith; quoted = longest - len - 8; quote = λ other. refl }))
  tells_by (inr (inr reply)) =
      let x : (problem.kind == 131) ≡ true = eq-eqb problem.kind 131 reply in
      subst (λ (b : Bool). Tells bytes problem (text b (problem.kind == 1))) (sym x)
      (record { kind = sym reply; code = λ other. absurd (other reply); pointer = λ is. absurd (omega arith); quoted = 0; quote = λ other. absurd (other reply) })

told_problem : (here : HostAddress) (p : Packet) (len : ℕ) (problem : Problem) (bytes : List ℕ) (c : ℕ) → Kind problem.kind → Tells bytes problem (message here p len problem bytes c)
told_problem here p len problem bytes c kind = tells_by here (numbers_of (request p.header.next_header p.payload)) problem c len bytes kind

-- ---- the way

back_by : (b : Bool) (link : ℕ) (source : Underlay) (a : Packet) (out : ℕ) (to : Option Underlay) (answer : Packet) → Sent link (if b then None else Some source) a ≡ Sent out to answer
    → (out ≡ link) × (to ≡ (if b then None else Some source)) × (a ≡ answer)
back_by b link source a out to answer is = (cc, cc, cc)

pub answers_tell : AnswersTellProblems
unfolding reply
answers_tell here link source bytes problem out to answer sent kind =
    let p = packet_of bytes in
    let way = way_back link p.path in
    let a = answer_packet here p way bytes problem in
    let len = header_len here p.header way in
    let unsummed = message here p len problem bytes 0 in
    let c = checksum (summed (answer_header here p.header len (length unsummed)) unsummed) in
    let back : sent_back link source a ≡ Sent out to answer = sent_is (is_left_unanswered p problem) (has_no_way_back link p.path) (sent_back link source a) out to answer sent in
    let parts = back_by (is_external link) link source a out to answer back in
    let same : a ≡ answer = parts.2 in
    let told = told_problem here p len problem bytes c kind in (
      record {
        link_is = parts.0;
        outside = λ other. parts.1 ∙ ap (λ (b : Bool). if not b then None else Some source) (ne_eqb link 0 other);
        within = λ zero. parts.1 ∙ ap (λ (b : Bool). if not b then None else Some source) (eq-eqb link 0 zero);
        sender = ap (λ (x : Packet). x.header.source) (sym same);
        receiver = ap (λ (x : Packet). x.header.destination) (sym same);
        traffic_class = ap (λ (x : Packet). x.header.traffic_class) (sym same);
        flow = ap (λ (x : Packet). x.header.flow_id) (sym same);
      },
      subst (λ (x : Packet). TellsProblem bytes problem x) same (record {
        scmp = refl;
        kind = told.kind;
        code = told.code;
        pointer = told.pointer;
        quoted = told.quoted;
        quote = told.quote;
      }),
    )
