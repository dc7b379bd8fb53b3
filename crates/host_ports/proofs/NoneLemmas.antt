-- What gives no port.
use Rattle.std.proofs.Common.{◌≡◌, ◌≢◌, ◌⊎◌, ◌≤◌, ◌<◌, ◌==◌, ◌&&◌, ◌||◌, ℕ, Bool, true, false, List, length, drop, slice_index, Option, Some, None, option_and_then, if◌then◌else◌, refl, sym, ap, ◌∙◌, inl, inr, arith, length-drop}
use Rattle.std.proofs.lemmas.Bool.{eqb-true, lt-leb}
use Rattle.field_rows.specs.Place.{number_at}
use Rattle.scion_packet.specs.Extensions.{Layer, upper_layer}
use Rattle.scion_packet.specs.Fault.{Fault}
use Rattle.scion_packet.specs.Header.{header_end, header_fault_as, header_of}
use Rattle.scion_packet.proofs.HeaderSpelled.{HeaderPasses, header_passes}
use Rattle.host_ports.specs.Laws.{HasNoPort, HasNoSource, IsTypeWithPort, NothingElseGivesAPort, TellsNoPort}
use Rattle.host_ports.specs.Layer.{is_reply, is_request, port_at}
use Rattle.host_ports.specs.Port.{destination_port_of, message_port}
use Rattle.host_ports.specs.Quote.{quoted_port, source_port_of, unless_fault}
use Rattle.host_ports.proofs.GivenLemmas.{error_gives}

-- ---- tests

-- too few bytes
not_there : (place least : ℕ) (bytes : List ℕ) → length bytes < least → port_at place least bytes ≡ None
not_there place least bytes short =
    let some : Option ℕ = Some (number_at bytes place 2) in
    let none : Option ℕ = None in
    ap (λ (b : Bool). if b then some else none) (lt-leb least (length bytes) short)

one_of : (a b : Bool) → (a || b) ≡ true → (a ≡ true) ⊎ (b ≡ true)
one_of true b is = inl refl
one_of false b is = inr is

-- one of two tests, or neither
of_two : (x y : Bool) (p q : Option ℕ) → (x ≡ true → p ≡ None) → (y ≡ true → q ≡ None) → (if x then p else if y then q else None) ≡ None
of_two true y p q a b = a refl
of_two false true p q a b = b refl
of_two false false p q a b = refl

-- the same where the second is of two parts
of_both : (x y z : Bool) (p q : Option ℕ) → (x ≡ true → p ≡ None) → (y ≡ true → z ≡ true → q ≡ None) → (if x then p else if y && z then q else None) ≡ None
of_both true y z p q a b = a refl
of_both false true true p q a b = b refl refl
of_both false true false p q a b = refl
of_both false false z p q a b = refl

-- one number isn't two
two_numbers : (k m n : ℕ) → k ≡ m → (k == n) ≡ true → (m ≡ n → ⊥) → ⊥
two_numbers k m n is other differ = differ (sym is ∙ eqb-true k n other)

-- ---- quotes

no_request_type : (kind : ℕ) → kind ≢ 128 → kind ≢ 130 → is_request kind ≡ true → ⊥
no_request_type kind a b is =
    elim (one_of (kind == 128) (kind == 130) is) [
      | inl echo ↦ a (eqb-true kind 128 echo)
      | inr traceroute ↦ b (eqb-true kind 130 traceroute)
    ]

not_udp : (l : Layer) → HasNoSource l → (l.protocol == 17) ≡ true → port_at 0 2 l.bytes ≡ None
not_udp l (HasNoSource.neither_protocol a b) is = absurd (a (eqb-true l.protocol 17 is))
not_udp l (HasNoSource.udp_cut protocol short) is = not_there 0 2 l.bytes short
not_udp l (HasNoSource.message_cut protocol short) is = absurd (two_numbers l.protocol 202 17 protocol is (λ same. absurd (omega arith)))
not_udp l (HasNoSource.no_request protocol a b) is = absurd (two_numbers l.protocol 202 17 protocol is (λ same. absurd (omega arith)))

not_request : (l : Layer) → HasNoSource l → (l.protocol == 202) ≡ true → is_request (slice_index l.bytes 0) ≡ true → port_at 4 6 l.bytes ≡ None
not_request l (HasNoSource.neither_protocol a b) is asks = absurd (b (eqb-true l.protocol 202 is))
not_request l (HasNoSource.udp_cut protocol short) is asks = absurd (two_numbers l.protocol 17 202 protocol is (λ same. absurd (omega arith)))
not_request l (HasNoSource.message_cut protocol short) is asks = not_there 4 6 l.bytes short
not_request l (HasNoSource.no_request protocol a b) is asks = absurd (no_request_type (slice_index l.bytes 0) a b asks)

no_source : (l : Layer) → HasNoSource l → source_port_of l ≡ None
no_source l has = of_both (l.protocol == 17) (l.protocol == 202) (is_request (slice_index l.bytes 0)) (port_at 0 2 l.bytes) (port_at 4 6 l.bytes) (not_udp l has) (not_request l has)

-- a header with a fault
none_by : (f : Option Fault) (l : Option Layer) → (f ≡ None → ⊥) → option_and_then source_port_of (unless_fault f l) ≡ None
none_by None l never = absurd (never refl)
none_by (Some fault) l never = refl

unreadable : (quote : List ℕ) → (HeaderPasses (slice_index quote 8) quote → ⊥) → quoted_port quote ≡ None
unreadable quote never =
    none_by (header_fault_as (slice_index quote 8) quote) (upper_layer (header_of quote).next_header (drop (header_end quote) quote))
    (λ none. never (header_passes (slice_index quote 8) quote none))

too_short : (quote : List ℕ) → length quote < 12 → quoted_port quote ≡ None
too_short quote short = unreadable quote (λ passes. absurd (omega (arith, short, passes.long)))

-- a readable quote, of whose layer no port is told
told_none : (f : Option Fault) (l : Option Layer) → option_and_then source_port_of l ≡ None → option_and_then source_port_of (unless_fault f l) ≡ None
told_none None l is = is
told_none (Some fault) l is = refl

no_quoted : (quote : List ℕ) → TellsNoPort quote → quoted_port quote ≡ None
no_quoted quote (TellsNoPort.no_common_header short) = too_short quote short
no_quoted quote (TellsNoPort.other_version other) = unreadable quote (λ passes. other passes.version)
no_quoted quote (TellsNoPort.uncovered short) = unreadable quote (λ passes. absurd (omega (arith, short, passes.covers)))
no_quoted quote (TellsNoPort.cut_header short) = unreadable quote (λ passes. absurd (omega (arith, short, passes.whole)))
no_quoted quote (TellsNoPort.no_upper_layer none) =
    told_none (header_fault_as (slice_index quote 8) quote) (upper_layer (header_of quote).next_header (drop (header_end quote) quote))
    (ap (λ (o : Option Layer). option_and_then source_port_of o) none)
no_quoted quote (TellsNoPort.no_source l found has) =
    told_none (header_fault_as (slice_index quote 8) quote) (upper_layer (header_of quote).next_header (drop (header_end quote) quote))
    (ap (λ (o : Option Layer). option_and_then source_port_of o) found ∙ no_source l has)

-- ---- messages

-- by its type: a reply, a message with a quote at one of three places, or another
by_type : (reply at8 at20 at28 : Bool) (p : Option ℕ) (q : ℕ → Option ℕ) → (reply ≡ true → p ≡ None) → (at8 ≡ true → q 8 ≡ None) → (at20 ≡ true → q 20 ≡ None) → (at28 ≡ true → q 28 ≡ None)
    → (if reply then p else option_and_then q (if at8 then Some 8 else if at20 then Some 20 else if at28 then Some 28 else None)) ≡ None
by_type true x y z p q a b c d = a refl
by_type false true y z p q a b c d = b refl
by_type false false true z p q a b c d = c refl
by_type false false false true p q a b c d = d refl
by_type false false false false p q a b c d = refl

message_by : (m : List ℕ) → (let k = slice_index m 0 in
    (is_reply k ≡ true → port_at 4 8 m ≡ None) → ((k == 1 || k == 2 || k == 4) ≡ true → quoted_port (drop 8 m) ≡ None)
    → ((k == 5) ≡ true → quoted_port (drop 20 m) ≡ None) → ((k == 6) ≡ true → quoted_port (drop 28 m) ≡ None) → message_port m ≡ None)
message_by m =
    let k = slice_index m 0 in
    by_type (is_reply k) (k == 1 || k == 2 || k == 4) (k == 5) (k == 6) (port_at 4 8 m) (λ place. quoted_port (drop place m))

no_quote : (m : List ℕ) (place : ℕ) → length m < 8 → 8 ≤ place → quoted_port (drop place m) ≡ None
no_quote m place short far = too_short (drop place m) (omega (arith, length-drop place m))

short_none : (m : List ℕ) → length m < 8 → message_port m ≡ None
short_none m short =
    message_by m (λ is. not_there 4 8 m short) (λ is. no_quote m 8 short (omega arith)) (λ is. no_quote m 20 short (omega arith)) (λ is. no_quote m 28 short (omega arith))

other_none : (m : List ℕ) → (IsTypeWithPort (slice_index m 0) → ⊥) → message_port m ≡ None
other_none m other =
    let k = slice_index m 0 in
    message_by m
    (λ is. elim (one_of (k == 129) (k == 131) is) [
      | inl echo ↦ absurd (other (inr (inr (inr (inr (inr (inl (eqb-true k 129 echo))))))))
      | inr traceroute ↦ absurd (other (inr (inr (inr (inr (inr (inr (eqb-true k 131 traceroute))))))))
    ])
    (λ is. elim (one_of (k == 1 || k == 2) (k == 4) is) [
      | inl first ↦ elim (one_of (k == 1) (k == 2) first) [
        | inl one ↦ absurd (other (inl (eqb-true k 1 one)))
        | inr two ↦ absurd (other (inr (inl (eqb-true k 2 two))))
      ]
      | inr four ↦ absurd (other (inr (inr (inl (eqb-true k 4 four)))))
    ])
    (λ is. absurd (other (inr (inr (inr (inl (eqb-true k 5 is)))))))
    (λ is. absurd (other (inr (inr (inr (inr (inl (eqb-true k 6 is))))))))

no_udp : (l : Layer) → HasNoPort l → (l.protocol == 17) ≡ true → port_at 2 8 l.bytes ≡ None
no_udp l (HasNoPort.other_protocol a b) is = absurd (a (eqb-true l.protocol 17 is))
no_udp l (HasNoPort.short_udp protocol short) is = not_there 2 8 l.bytes short
no_udp l (HasNoPort.short_message protocol short) is = absurd (two_numbers l.protocol 202 17 protocol is (λ same. absurd (omega arith)))
no_udp l (HasNoPort.other_message protocol other) is = absurd (two_numbers l.protocol 202 17 protocol is (λ same. absurd (omega arith)))

no_message : (l : Layer) → HasNoPort l → (l.protocol == 202) ≡ true → message_port l.bytes ≡ None
no_message l (HasNoPort.other_protocol a b) is = absurd (b (eqb-true l.protocol 202 is))
no_message l (HasNoPort.short_udp protocol short) is = absurd (two_numbers l.protocol 17 202 protocol is (λ same. absurd (omega arith)))
no_message l (HasNoPort.short_message protocol short) is = short_none l.bytes short
no_message l (HasNoPort.other_message protocol other) is = other_none l.bytes other

no_port : (l : Layer) → HasNoPort l → destination_port_of l ≡ None
no_port l has = of_two (l.protocol == 17) (l.protocol == 202) (port_at 2 8 l.bytes) (message_port l.bytes) (no_udp l has) (no_message l has)

pub nothing_else : NothingElseGivesAPort
nothing_else = record {
  cut_extension = λ next_header bytes none. ap (λ (o : Option Layer). option_and_then destination_port_of o) none;
  no_port = λ next_header bytes l found has. ap (λ (o : Option Layer). option_and_then destination_port_of o) found ∙ no_port l has;
  no_quoted_port = λ es e quote lawful tells. error_gives es e quote lawful ∙ no_quoted quote tells;
}
