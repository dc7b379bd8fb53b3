-- Row after row: what each of them may tell a sender.
use Rattle.std.proofs.Common.{◌≡◌, ℕ, Bool, true, false, not, ◌&&◌, ◌==◌, nat_lt, List, [], ◌∷◌, length, Option, Some, None, if◌then◌else◌, refl, sym, ap, ap₂, subst, ◌∙◌}
use Rattle.std.specs.Prelude.{is_some, option_map}
use Rattle.scion_packet.specs.Fault.{Fault}
use Rattle.scion_packet.specs.Header.{HeaderFields, header_fault, host_code}
use Rattle.scion_packet.specs.Packet.{Packet, path_bytes}
use Rattle.scion_packet.specs.Path.{HopField, path_fault}
use Rattle.process_packet.specs.Decide.{decision_table, verdict, verdict_of}
use Rattle.process_packet.specs.Conditions.{ComesInBy}
use Rattle.process_packet.specs.Laws.{IsAuthorised, changes}
use Rattle.process_packet.specs.HostPort.{delivered_at}
use Rattle.process_packet.specs.Neighbours.{sibling_at}
use Rattle.process_packet.specs.Network.{Network, interface_kind, is_local, own_link, sibling}
use Rattle.process_packet.specs.Problems.{IsProblem, ProblemsAreLawful}
use Rattle.process_packet.specs.Shown.{StandsToLeave, is_for_us}
use Rattle.process_packet.specs.Request.{is_request}
use Rattle.process_packet.specs.Rows.{Answered, Dropped, Ends, GoesOn, Row, RowResult, Sent, Verdict, came_lawfully, delivered, ends_where, expired, faulty, is_destination_lawful, is_pair_lawful, is_source_lawful, sent_on, sent_out, sent_to, then_rows, wrong_mac}
use Rattle.process_packet.specs.PacketState.{PacketState, arrives, chained, changed_over, egress, egress_alert, hop, hop_pointer, info, info_pointer, ingress, ingress_alert, is_along, is_authentic, is_expired, is_external, is_last_of_path, packet, turned_back, next_place, with_place}
use Rattle.process_packet.specs.declared.cause.Cause.TheVariants as cause
use Rattle.process_packet.specs.declared.decision.Problem.{Problem}
use Rattle.process_packet.specs.declared.underlay.Underlay.{Underlay}
use Rattle.process_packet.proofs.LawLemmas.{rest}
use Rattle.process_packet.proofs.ConditionLemmas.{alerts_entry, alerts_exit, authorised, comes_in_by, external, goes_out_by, has_its_pair}
use Rattle.process_packet.proofs.PassingLemmas.{not_false, parameter}
use Rattle.process_packet.proofs.RowsPassed.{turned_is}
use Rattle.process_packet.proofs.TurningLemmas.{IsSameBesides, turned_along, turned_hop, turned_stays}

-- a problem that is told is such
abbrev pub IsTold : (Problem → Type 0) → Verdict → Type 0
IsTold K (Sent out to p) = Unit {0}
IsTold K (Answered q) = K q
IsTold K (Dropped c) = Unit {0}

abbrev pub IsToldAfter : (Problem → Type 0) → RowResult → List Row → Type 0
IsToldAfter K t rows = IsTold K (verdict_of (then_rows t rows))

pub row_of : (K : Problem → Type 0) (b : Bool) (v : Verdict) (s : PacketState) (rows : List Row) → (b ≡ true → IsTold K v) → (b ≡ false → IsToldAfter K (GoesOn s) rows)
    → IsToldAfter K (ends_where b v s) rows
row_of K true v s rows here after = here refl
row_of K false v s rows here after = after refl

pub row_within : (K : Problem → Type 0) (b : Bool) (v : Verdict) (s : PacketState) (within rows : List Row) → (b ≡ true → IsTold K v)
    → (b ≡ false → IsToldAfter K (then_rows (GoesOn s) within) rows) → IsToldAfter K (then_rows (ends_where b v s) within) rows
row_within K true v s within rows here after = here refl
row_within K false v s within rows here after = after refl

pub row_faulty : (K : Problem → Type 0) (f : Option Fault) (s : PacketState) (rows : List Row) → IsToldAfter K (GoesOn s) rows → IsToldAfter K (faulty f s) rows
row_faulty K None s rows after = after
row_faulty K (Some f) s rows after = tt

-- a row of faults, which leaves none
pub row_sound : (K : Problem → Type 0) (f : Option Fault) (s : PacketState) (rows : List Row) → (f ≡ None → IsToldAfter K (GoesOn s) rows) → IsToldAfter K (faulty f s) rows
row_sound K None s rows after = after refl
row_sound K (Some f) s rows after = tt

-- ---- delivery and leaving

told_either : (K : Problem → Type 0) (b : Bool) (q r : Problem) → K q → K r → IsTold K (if b then Answered q else Answered r)
told_either K true q r k j = k
told_either K false q r k j = j

told_sent : (K : Problem → Type 0) (p : Packet) (o : Option Underlay) → K (record { kind = 1; code = 0; pointer = 0 }) → K (parameter 21 9) → IsTold K (sent_to p o)
told_sent K p None k j =
    let a = p.header.destination in told_either K (a.kind == 1 && host_code a == 0) (record { kind = 1; code = 0; pointer = 0 }) (parameter 21 9) k j
told_sent K p (Some at) k j = tt

pub told_delivered : (K : Problem → Type 0) (n : Network) (p : Packet) → K (record { kind = 1; code = 0; pointer = 0 }) → K (parameter 21 9) → IsTold K (delivered n p)
told_delivered K n p k j = told_sent K p (delivered_at n p.header p.payload) k j

told_out : (K : Problem → Type 0) (last : Bool) (link : ℕ) (p : Packet) → IsTold K (if last then Dropped cause.PathEnd else Sent link None p)
told_out K true link p = tt
told_out K false link p = tt

told_on : (K : Problem → Type 0) (p : Packet) (o : Option Underlay) → IsTold K (sent_on p o)
told_on K p None = tt
told_on K p (Some at) = tt

pub told_leave : (K : Problem → Type 0) (b : Bool) (u w : PacketState)
    → IsToldAfter K (if b then Ends (sent_out w (egress u)) else Ends (sent_on (packet u) (option_map sibling_at (sibling u.network (egress u))))) []
told_leave K true u w = told_out K (is_last_of_path w) (egress u) (packet (with_place w (next_place w.path.segments w.path.place)))
told_leave K false u w = told_on K (packet u) (option_map sibling_at (sibling u.network (egress u)))

told_pair : (K : Problem → Type 0) (switched b : Bool) (q r : Problem) (u : PacketState) (rows : List Row) → K q → K r → (b ≡ false → IsToldAfter K (GoesOn u) rows)
    → IsToldAfter K (ends_where b (if switched then Answered q else Answered r) u) rows
told_pair K true b q r u rows k j after = row_of K b (Answered q) u rows (λ is. k) after
told_pair K false b q r u rows k j after = row_of K b (Answered r) u rows (λ is. j) after

-- what three tests say together
record AllThree (x y z : Bool) : Type 0 where
  one : x ≡ true
  two : y ≡ true
  three : z ≡ true

all_three : (x y z : Bool) → (x && y && z) ≡ true → AllThree x y z
all_three true true true e = record { one = refl; two = refl; three = refl }
all_three true true false e = absurd cc
all_three true false z e = absurd cc
all_three false y z e = absurd cc

-- ---- the table

module _ (s : PacketState) where
  abbrev K : Problem → Type 0
  K q = IsProblem s q

  abbrev t : PacketState
  t = turned_back s

  four : (code pointer : ℕ) → K (parameter code pointer)
  four code pointer = IsProblem.parameter refl

  one : K (record { kind = 1; code = 0; pointer = 0 })
  one = IsProblem.unreachable refl

  -- what stands turned back is the same request
  request_there : is_request t.header.next_header t.payload ≡ true → is_request s.header.next_header s.payload ≡ true
  request_there is =
      let same = turned_stays s in
      ap₂ (λ (h : HeaderFields) (p : List ℕ). is_request h.next_header p) (sym same.header) (sym same.payload) ∙ is

  others_there : IsSameBesides s t → is_for_us t ≡ false → is_for_us s ≡ false
  others_there same others =
      ap₂ (λ (l : ℕ) (h : HeaderFields). not (l == 0) && is_local s.network h.destination) (sym same.link) (sym same.header)
      ∙ ap (λ (n : Network). not (t.link == 0) && is_local n t.header.destination) (sym same.network) ∙ others

  asked_at_entry : IsAuthorised s → (is_external t && ingress_alert t && is_request t.header.next_header t.payload) ≡ true → K (record { kind = 131; code = 0; pointer = ingress t })
  asked_at_entry is asks =
      let parts = all_three (is_external t) (ingress_alert t) (is_request t.header.next_header t.payload) asks in
      let same = turned_stays s in
      let flag : ingress_alert s ≡ true =
      ap₂ (λ (b : Bool) (h : HopField). if b then h.ingress_alert else h.egress_alert) (sym (turned_along s)) (sym (turned_hop s)) ∙ parts.two in
      let interface : ingress s ≡ ingress t =
      ap₂ (λ (b : Bool) (h : HopField). if b then h.construction_ingress else h.construction_egress) (sym (turned_along s)) (sym (turned_hop s)) in
      IsProblem.reply_at_entry refl refl (record {
        external = (external s.link).0 (ap (λ (l : ℕ). not (l == 0)) (sym same.link) ∙ parts.one);
        authorised = is;
        request = request_there parts.three;
        flag = (alerts_entry (info s) (hop s)).0 flag;
        by = subst (λ (id : ℕ). ComesInBy (info s) (hop s) id) interface (comes_in_by (info s) (hop s));
      })

  asked_at_exit : (u : PacketState) → IsAuthorised s → u.header ≡ t.header → u.payload ≡ t.payload → is_for_us t ≡ false → StandsToLeave t u → is_pair_lawful u ≡ true
      → (is_some (own_link u.network (egress u)) && egress_alert u && is_request u.header.next_header u.payload) ≡ true → K (record { kind = 131; code = 0; pointer = egress u })
  asked_at_exit u is header payload others leaves pair asks =
      let parts = all_three (is_some (own_link u.network (egress u))) (egress_alert u) (is_request u.header.next_header u.payload) asks in
      let same = turned_stays s in
      IsProblem.reply_at_exit u refl refl (record {
        authorised = is;
        request = request_there (ap₂ (λ (h : HeaderFields) (p : List ℕ). is_request h.next_header p) (sym header) (sym payload) ∙ parts.three);
        others = others_there same others;
        leaves = subst (λ (v : PacketState). StandsToLeave v u) (turned_is s) leaves;
        pair = (has_its_pair u).0 pair;
        flag = (alerts_exit (info u) (hop u)).0 parts.two;
        by = goes_out_by (info u) (hop u);
        own = parts.one;
      })

  leaves : (u : PacketState) → IsAuthorised s → u.header ≡ t.header → u.payload ≡ t.payload → is_for_us t ≡ false → StandsToLeave t u → IsToldAfter K (GoesOn u) (rest 14)
  leaves u is header payload others stands =
      row_of K (not (is_some (interface_kind u.network (egress u)))) (Answered (parameter (if is_along u then 50 else 49) (hop_pointer u))) u (rest 15) (λ is-so. four _ _) (λ known.
      told_pair K u.switched (not (is_pair_lawful u)) (parameter 53 (info_pointer u)) (parameter 48 (hop_pointer u)) u (rest 16) (four _ _) (four _ _) (λ pair.
      row_of K (is_some (own_link u.network (egress u)) && egress_alert u && is_request u.header.next_header u.payload) (Answered (record { kind = 131; code = 0; pointer = egress u })) u (rest 17)
      (λ asks. asked_at_exit u is header payload others stands (not_false (is_pair_lawful u) pair) asks)
      (λ quiet. told_leave K (is_some (own_link u.network (egress u))) u (if is_along u then chained u else u))))

  switches : (b : Bool) → changes t ≡ b → IsAuthorised s → is_for_us t ≡ false
      → IsToldAfter K (if b then then_rows (GoesOn (changed_over t)) (expired ∷ wrong_mac ∷ []) else GoesOn t) (rest 14)
  switches true ends is others =
      let u : PacketState = changed_over t in
      row_within K (is_expired u) (Answered (parameter 52 (hop_pointer u))) u (wrong_mac ∷ []) (rest 14) (λ is-so. four _ _) (λ unexpired.
      row_within K (not (is_authentic u)) (Answered (parameter 51 (hop_pointer u))) u [] (rest 14) (λ is-so. four _ _) (λ authentic.
      leaves u is refl refl others (StandsToLeave.changes_over ends unexpired (not_false (is_authentic u) authentic))))
  switches false still is others = leaves t is refl refl others (StandsToLeave.stays still)

  told_all : IsToldAfter K (GoesOn s) decision_table
  told_all =
      row_of K (nat_lt 9216 (length s.bytes)) (Dropped cause.TooLong) s (rest 1) (λ is. tt) (λ short.
      row_sound K (header_fault s.bytes) s (rest 2) (λ header.
      row_sound K (path_fault (path_bytes s.bytes)) s (rest 3) (λ path.
      row_of K (is_expired s) (Answered (parameter 52 (hop_pointer s))) s (rest 4) (λ is. four _ _) (λ unexpired.
      row_of K (is_external s && not (ingress s == s.link)) (Answered (parameter (if is_along s then 49 else 50) (hop_pointer s))) s (rest 5) (λ is. four _ _) (λ entered.
      row_of K (not (s.header.payload_length == length s.payload)) (Answered (parameter 19 0)) s (rest 6) (λ is. four _ _) (λ whole.
      row_of K (not (came_lawfully s)) (Dropped cause.UnderlaySource) s (rest 7) (λ is. tt) (λ sender.
      row_of K (not (is_source_lawful s)) (Answered (parameter 33 20)) s (rest 8) (λ is. four _ _) (λ source.
      row_of K (not (is_destination_lawful s)) (Answered (parameter 34 12)) s (rest 9) (λ is. four _ _) (λ destination.
      row_of K (not (is_authentic t)) (Answered (parameter 51 (hop_pointer t))) t (rest 11) (λ is. four _ _) (λ authentic.
      let is : IsAuthorised s = authorised s (record {
        short = short;
        header = header;
        path = path;
        unexpired = unexpired;
        entered = entered;
        whole = whole;
        sender = sender;
        source = source;
        destination = destination;
        authentic = authentic;
      }) in
      row_of K (is_external t && ingress_alert t && is_request t.header.next_header t.payload) (Answered (record { kind = 131; code = 0; pointer = ingress t })) t (rest 12)
      (λ asks. asked_at_entry is asks) (λ quiet.
      row_of K (is_external t && is_local t.network t.header.destination) (delivered t.network (packet t)) t (rest 13)
      (λ for_us. told_delivered K t.network (packet t) one (four 21 9)) (λ others. switches (changes t) refl is others))))))))))))

pub problems_lawful : ProblemsAreLawful
unfolding verdict
problems_lawful n link source moment bytes q answers = subst (IsTold (IsProblem (arrives n link source moment bytes))) answers (told_all (arrives n link source moment bytes))
