-- Reason by reason, what becomes of a refused packet.
use Rattle.std.proofs.Common.{◌≡◌, ◌≤◌, ◌&&◌, ◌==◌, not, nat_lt, ℕ, Bool, true, false, List, [], ◌∷◌, length, drop, Option, Some, None, refl, sym, ap, ap₂, subst, ◌∙◌, inl, inr, if◌then◌else◌}
use Rattle.std.specs.Bool.{Decides}
use Rattle.std.specs.Prelude.{is_some, option_map}
use Rattle.std.proofs.lemmas.Bool.{cases_Bool, eq-eqb, le-ltb, ne_eqb}
use Rattle.std.proofs.lemmas.Bool.Decides.{Decides-eqb, Decides-ltb}
use Rattle.scion_packet.specs.Fault.{Fault}
use Rattle.scion_packet.specs.Header.{HostAddress, header_fault, host_code}
use Rattle.scion_packet.specs.Packet.{Packet, path_bytes}
use Rattle.scion_packet.specs.Path.{path_fault}
use Rattle.scion_packet.proofs.PacketLaws.{both_pass}
use Rattle.segment_switch.specs.declared.kind.LinkKind.{LinkKind}
use Rattle.process_packet.specs.declared.cause.Cause.{Cause}
use Rattle.process_packet.specs.declared.cause.Cause.TheVariants as cause
use Rattle.process_packet.specs.declared.neighbours.Service.{Service}
use Rattle.process_packet.specs.declared.underlay.Underlay.{Underlay}
use Rattle.process_packet.specs.Conditions.{CarriesMac, GoesOutBy, MayFollow}
use Rattle.process_packet.specs.Decide.{decision_table, ends_as, verdict, verdict_of}
use Rattle.process_packet.specs.HostPort.{host_port_of}
use Rattle.process_packet.specs.Laws.{changes}
use Rattle.process_packet.specs.Neighbours.{service_at}
use Rattle.process_packet.specs.Network.{interface_kind, reached_at}
use Rattle.process_packet.specs.PacketState.{PacketState, arrival_kind, arrives, changed_over, egress, hop, hop_pointer, info, info_pointer, ingress, is_along, is_authentic, is_expired, is_external, packet, turned_back}
use Rattle.process_packet.specs.Refusals.{IsByItsLink, IsCauseOf, IsForItsDestination, IsFromItsRouter, IsFromItsSource, IsRead, IsRefusedAtEntry, IsRefusedAtExit, IsRefusedAtSwitch, IsTimely, IsToBeDelivered, IsToLeave, IsUndeliverable, IsWhole, NamesItsLink, RefusedAreTold}
use Rattle.process_packet.specs.Rows.{Dropped, Ends, GoesOn, Row, RowResult, Verdict, came_lawfully, cause_of, delivered, ends_where, expired, faulty, is_destination_lawful, is_pair_lawful, is_source_lawful, problem, sent_to, then_rows, wrong_mac}
use Rattle.process_packet.specs.Shown.{StandsToLeave, is_for_us, turned}
use Rattle.process_packet.specs.Underlay.{longest_datagram}
use Rattle.process_packet.proofs.AuthorisedLemmas.{comes_so}
use Rattle.process_packet.proofs.ConditionLemmas.{carries_mac, carries_here, egress_alone, has_its_destination, has_its_pair, has_its_source, in_time, names_its_link, sender}
use Rattle.process_packet.proofs.HostLemmas.{named, unknown}
use Rattle.process_packet.proofs.PassingLemmas.{not_true}
use Rattle.process_packet.proofs.PointerLemmas.{same_pointer}
use Rattle.process_packet.proofs.RowsPassed.{clear, clear_within, comes_in, delivers, ends_there, hits, no_fault, not_is_false, stands_to_leave}

abbrev rest : ℕ → List Row
rest k = drop k decision_table

abbrev parameter : ℕ → ℕ → Verdict
parameter code pointer = problem 4 code pointer

-- ---- tests that fail

missed : {P : Type 0} (b : Bool) → Decides (not b) P → (P → ⊥) → b ≡ true
missed true decided never = refl
missed false decided never = absurd (never (decided.0 refl))

refused : {P : Type 0} (b : Bool) → Decides b P → (P → ⊥) → not b ≡ true
refused true decided never = absurd (never (decided.0 refl))
refused false decided never = refl

-- a test that passes
passed : {P : Type 0} (b : Bool) → Decides b P → P → not b ≡ false
passed b decided holds = not_is_false b (decided.1 holds)

timely_test : {P : Type 0} (b : Bool) → Decides (not b) P → P → b ≡ false
timely_test b decided holds = not_true b (decided.1 holds)

-- a row within the row of the switch
hits_within : (b : Bool) (v : Verdict) (s : PacketState) (within rows : List Row) → b ≡ true → then_rows (then_rows (ends_where b v s) within) rows ≡ Ends v
hits_within b v s within rows e = ap (λ (c : Bool). then_rows (then_rows (ends_where c v s) within) rows) e

-- ---- faults

pub caused : (f : Fault) (c : Cause) → IsCauseOf f c → cause_of f ≡ c
caused _ _ IsCauseOf.short = refl
caused _ _ IsCauseOf.version = refl
caused _ _ IsCauseOf.path_type = refl
caused _ _ IsCauseOf.header = refl
caused _ _ IsCauseOf.path = refl
caused _ _ IsCauseOf.peering = refl

faulty_ends : (f : Fault) (o : Option Fault) (s : PacketState) (rows : List Row) → o ≡ Some f → then_rows (faulty o s) rows ≡ Ends (Dropped (cause_of f))
faulty_ends f o s rows e = ap (λ (g : Option Fault). then_rows (faulty g s) rows) e

-- ---- where it arrives

module _ (s : PacketState) where
  abbrev t : PacketState
  t = turned_back s

  abbrev carries : Type 0
  carries = CarriesMac s.network.key (info (turned_back s)).segment_id (info (turned_back s)) (hop (turned_back s))

  abbrev Reaches : ℕ → Type 0
  Reaches k = then_rows (GoesOn s) decision_table ≡ then_rows (GoesOn s) (rest k)

  fits : length s.bytes ≤ longest_datagram → Reaches 1
  fits short = clear (nat_lt longest_datagram (length s.bytes)) (Dropped cause.TooLong) s (rest 1) (le-ltb _ _ short)

  read : IsRead s → Reaches 3
  read is =
      let both = both_pass s.bytes is.1 in
      fits is.0 ∙ no_fault (header_fault s.bytes) s (rest 2) both.0 ∙ no_fault (path_fault (path_bytes s.bytes)) s (rest 3) both.1

  timely : IsTimely s → Reaches 4
  timely is = read is.0 ∙ clear (is_expired s) (parameter 52 (hop_pointer s)) s (rest 4) (timely_test (is_expired s) (in_time (info s) (hop s) s.moment) is.1)

  abbrev by_another : Bool
  by_another = is_external s && not (ingress s == s.link)

  by_link : IsByItsLink s → Reaches 5
  by_link is = timely is.0 ∙ clear by_another (parameter (if is_along s then 49 else 50) (hop_pointer s)) s (rest 5) (timely_test by_another (names_its_link s) is.1)

  whole : IsWhole s → Reaches 6
  whole is =
      by_link is.0 ∙ clear (not (s.header.payload_length == length s.payload)) (parameter 19 0) s (rest 6)
      (passed (s.header.payload_length == length s.payload) (Decides-eqb s.header.payload_length (length s.payload)) is.1)

  from_router : IsFromItsRouter s → Reaches 7
  from_router is = whole is.0 ∙ clear (not (came_lawfully s)) (Dropped cause.UnderlaySource) s (rest 7) (passed (came_lawfully s) (sender s) is.1)

  from_source : IsFromItsSource s → Reaches 8
  from_source is = from_router is.0 ∙ clear (not (is_source_lawful s)) (parameter 33 20) s (rest 8) (passed (is_source_lawful s) (has_its_source s) is.1)

  to_destination : IsForItsDestination s → Reaches 9
  to_destination is = from_source is.0 ∙ clear (not (is_destination_lawful s)) (parameter 34 12) s (rest 9) (passed (is_destination_lawful s) (has_its_destination s) is.1)

  mac_missed : (carries → ⊥) → not (is_authentic t) ≡ true
  mac_missed never = elim (cases_Bool (is_authentic t)) [ inl is ↦ absurd (never (carries_here s is)) | inr other ↦ ap not other ]

  abbrev ended : Verdict
  ended = ends_as s decision_table

  by_other : IsTimely s → (NamesItsLink s → ⊥) → ended ≡ parameter (if is_along s then 49 else 50) (hop_pointer s)
  by_other is other =
      ap verdict_of (timely is ∙ hits by_another (parameter (if is_along s then 49 else 50) (hop_pointer s)) s (rest 5) (missed by_another (names_its_link s) other))

  pub refused_at_entry : IsRefusedAtEntry s ended
  refused_at_entry = record {
    too_long = λ long. ap verdict_of (hits (nat_lt longest_datagram (length s.bytes)) (Dropped cause.TooLong) s (rest 1) ((Decides-ltb longest_datagram (length s.bytes)).1 long));
    faulty_header = λ f c short fault is. ap verdict_of (fits short ∙ faulty_ends f (header_fault s.bytes) s (rest 2) fault) ∙ ap Dropped (caused f c is);
    faulty_path = λ f c short header fault is.
        ap verdict_of (fits short ∙ no_fault (header_fault s.bytes) s (rest 2) header ∙ faulty_ends f (path_fault (path_bytes s.bytes)) s (rest 3) fault) ∙ ap Dropped (caused f c is);
    expired = λ is over. ap verdict_of (read is ∙ hits (is_expired s) (parameter 52 (hop_pointer s)) s (rest 4) (missed (is_expired s) (in_time (info s) (hop s) s.moment) over));
    by_other_link = λ is other along. by_other is other ∙ ap (λ (b : Bool). parameter (if b then 49 else 50) (hop_pointer s)) along;
    by_other_link_back = λ is other against. by_other is other ∙ ap (λ (b : Bool). parameter (if b then 49 else 50) (hop_pointer s)) against;
    not_whole = λ is other.
        ap verdict_of (by_link is ∙ hits (not (s.header.payload_length == length s.payload)) (parameter 19 0) s (rest 6) (ap not (ne_eqb s.header.payload_length (length s.payload) other)));
    other_router = λ is other. ap verdict_of (whole is ∙ hits (not (came_lawfully s)) (Dropped cause.UnderlaySource) s (rest 7) (refused (came_lawfully s) (sender s) other));
    other_source = λ is other. ap verdict_of (from_router is ∙ hits (not (is_source_lawful s)) (parameter 33 20) s (rest 8) (refused (is_source_lawful s) (has_its_source s) other));
    other_destination = λ is other.
        ap verdict_of (from_source is ∙ hits (not (is_destination_lawful s)) (parameter 34 12) s (rest 9) (refused (is_destination_lawful s) (has_its_destination s) other));
    other_mac = λ is other.
        ap verdict_of (to_destination is ∙ hits (not (is_authentic t)) (parameter 51 (hop_pointer t)) t (rest 11) (mac_missed other))
        ∙ ap (parameter 51) (same_pointer (is_external s && not (is_along s)) s);
  }

  -- ---- where it is delivered

  abbrev a : HostAddress
  a = s.header.destination

  abbrev p : Packet
  p = packet (turned s)

  abbrev port : ℕ
  port = host_port_of s.network s.header.next_header s.payload

  -- where it isn't reached, its sender is told so
  abbrev told_as : Bool → Verdict
  told_as service_host = if service_host then problem 1 0 0 else parameter 21 9

  never_both : (x y : Bool) → (x ≡ true → y ≡ false) → (x && y) ≡ false
  never_both true y other = other refl
  never_both false y other = refl

  is_zero : (a.kind == 0) ≡ true → a.kind ≡ 0
  is_zero e = (Decides-eqb a.kind 0).0 e

  pub undeliverable : IsToBeDelivered s → IsUndeliverable s ended
  undeliverable is =
      let shown = comes_so s is.authorised in
      let goes : ended ≡ sent_to p (reached_at s.network port a) = delivers s shown is.quiet is.for_us in
      record {
        no_service = λ kind code none.
            goes
            ∙ ap (λ (o : Option Underlay). sent_to p o) (named s.network port a kind code ∙ ap (λ (o : Option Service). option_map service_at o) none)
            ∙ ap told_as (ap₂ (λ (x y : Bool). x && y) (eq-eqb a.kind 1 kind) (eq-eqb (host_code a) 0 code));
        unknown_host = λ address service_host.
            let other : (a.kind == 1 && host_code a == 0) ≡ false = never_both (a.kind == 1) (host_code a == 0) (λ e. ne_eqb (host_code a) 0 (service_host ((Decides-eqb a.kind 1).0 e))) in
            goes
            ∙ ap (λ (o : Option Underlay). sent_to p o)
            (unknown s.network port a
            (never_both (a.kind == 0) (host_code a == 0) (λ e. ne_eqb (host_code a) 0 (address (is_zero e)).0))
            (never_both (a.kind == 0) (host_code a == 3) (λ e. ne_eqb (host_code a) 3 (address (is_zero e)).1))
            other)
            ∙ ap told_as other;
      }

  -- ---- where it leaves

  abbrev switching : RowResult
  switching = if changes (turned s) then then_rows (GoesOn (changed_over (turned s))) (expired ∷ wrong_mac ∷ []) else GoesOn (turned s)

  to_switch : IsToLeave s → then_rows (GoesOn s) decision_table ≡ then_rows switching (rest 14)
  to_switch is =
      let v : PacketState = turned s in
      comes_in s (comes_so s is.authorised) is.quiet ∙ clear (is_for_us v) (delivered v.network (packet v)) v (rest 13) is.others

  pub refused_at_switch : IsToLeave s → changes (turned s) ≡ true → IsRefusedAtSwitch s (changed_over (turned s)) ended
  refused_at_switch is ends =
      let u : PacketState = changed_over (turned s) in
      let changed : then_rows switching (rest 14) ≡ then_rows (then_rows (GoesOn u) (expired ∷ wrong_mac ∷ [])) (rest 14) =
      ap (λ (b : Bool). then_rows (if b then then_rows (GoesOn u) (expired ∷ wrong_mac ∷ []) else GoesOn (turned s)) (rest 14)) ends in
      let after = to_switch is ∙ changed in
      let timed = in_time (info u) (hop u) u.moment in
      record {
        expired = λ over. ap verdict_of (after ∙ hits_within (is_expired u) (parameter 52 (hop_pointer u)) u (wrong_mac ∷ []) (rest 14) (missed (is_expired u) timed over));
        other_mac = λ within other.
            ap verdict_of (
            after
            ∙ clear_within (is_expired u) (parameter 52 (hop_pointer u)) u (wrong_mac ∷ []) (rest 14) (timely_test (is_expired u) timed within)
            ∙ hits_within (not (is_authentic u)) (parameter 51 (hop_pointer u)) u [] (rest 14) (refused (is_authentic u) (carries_mac u.network.key (info u) (hop u)) other)
            );
      }

  -- at the hop by which it leaves
  to_exit : (u : PacketState) → IsToLeave s → StandsToLeave (turned s) u → then_rows (GoesOn s) decision_table ≡ then_rows (GoesOn u) (rest 14)
  to_exit u is leaves = to_switch is ∙ stands_to_leave (rest 14) leaves

  unknown_test : (u : PacketState) (id : ℕ) → GoesOutBy (info u) (hop u) id → interface_kind u.network id ≡ None → not (is_some (interface_kind u.network (egress u))) ≡ true
  unknown_test u id by none = ap (λ (o : Option LinkKind). not (is_some o)) (ap (interface_kind u.network) (sym (egress_alone id by)) ∙ none)

  known_test : (u : PacketState) (id : ℕ) (to : LinkKind) → GoesOutBy (info u) (hop u) id → interface_kind u.network id ≡ Some to → not (is_some (interface_kind u.network (egress u))) ≡ false
  known_test u id to by some = ap (λ (o : Option LinkKind). not (is_some o)) (ap (interface_kind u.network) (sym (egress_alone id by)) ∙ some)

  other_pair_test : (u : PacketState) (id : ℕ) (to : LinkKind) → GoesOutBy (info u) (hop u) id → interface_kind u.network id ≡ Some to → (MayFollow u.switched (arrival_kind u) to → ⊥)
      → not (is_pair_lawful u) ≡ true
  other_pair_test u id to by some never =
      refused (is_pair_lawful u) (has_its_pair u)
      (λ pair.
      let is : Some pair.to ≡ Some to = sym pair.known ∙ ap (interface_kind u.network) (sym (egress_alone id by)) ∙ some in
      let one : pair.to ≡ to = cc in
      never (subst (λ (k : LinkKind). MayFollow u.switched (arrival_kind u) k) one pair.lawful))

  no_way : (u : PacketState) (id : ℕ) → IsToLeave s → StandsToLeave (turned s) u → GoesOutBy (info u) (hop u) id → interface_kind u.network id ≡ None
      → ended ≡ parameter (if is_along u then 50 else 49) (hop_pointer u)
  no_way u id is leaves by none =
      ap verdict_of (to_exit u is leaves ∙ hits (not (is_some (interface_kind u.network (egress u)))) (parameter (if is_along u then 50 else 49) (hop_pointer u)) u (rest 15) (unknown_test u id by none))

  no_pair : (u : PacketState) (id : ℕ) (to : LinkKind) → IsToLeave s → StandsToLeave (turned s) u → GoesOutBy (info u) (hop u) id → interface_kind u.network id ≡ Some to
      → (MayFollow u.switched (arrival_kind u) to → ⊥) → ended ≡ (if u.switched then parameter 53 (info_pointer u) else parameter 48 (hop_pointer u))
  no_pair u id to is leaves by some never =
      ap verdict_of (
      to_exit u is leaves
      ∙ clear (not (is_some (interface_kind u.network (egress u)))) (parameter (if is_along u then 50 else 49) (hop_pointer u)) u (rest 15) (known_test u id to by some)
      ∙ hits (not (is_pair_lawful u)) (if u.switched then parameter 53 (info_pointer u) else parameter 48 (hop_pointer u)) u (rest 16) (other_pair_test u id to by some never)
      )

  pub refused_at_exit : IsToLeave s → (u : PacketState) → StandsToLeave (turned s) u → IsRefusedAtExit u ended
  refused_at_exit is u leaves = record {
    unknown = λ id by none along. no_way u id is leaves by none ∙ ap (λ (b : Bool). parameter (if b then 50 else 49) (hop_pointer u)) along;
    unknown_back = λ id by none against. no_way u id is leaves by none ∙ ap (λ (b : Bool). parameter (if b then 50 else 49) (hop_pointer u)) against;
    other_pair = λ id to by some never still.
        no_pair u id to is leaves by some never ∙ ap (λ (b : Bool). if b then parameter 53 (info_pointer u) else parameter 48 (hop_pointer u)) still;
    other_change = λ id to by some never switched.
        no_pair u id to is leaves by some never ∙ ap (λ (b : Bool). if b then parameter 53 (info_pointer u) else parameter 48 (hop_pointer u)) switched;
    path_ends = λ pair quiet own last. ends_there s u (comes_so s is.authorised) is.quiet is.others leaves ((has_its_pair u).1 pair) quiet own last;
  }

pub refused_told : RefusedAreTold
unfolding verdict
refused_told n link source moment bytes =
    let s : PacketState = arrives n link source moment bytes in
    record {
      at_entry = refused_at_entry s;
      at_delivery = λ is. undeliverable s is;
      at_switch = λ is ends. refused_at_switch s is ends;
      at_exit = λ is u leaves. refused_at_exit s is u leaves;
    }
