-- The tests of the rows for one-hop paths: a row lets go on just what shows its condition, and ends the decision for the rest.
use Rattle.std.proofs.Common.{◌≡◌, ◌≢◌, ◌≤◌, ◌+◌, ◌&&◌, ◌||◌, ◌==◌, not, nat_lt, ℕ, Bool, true, false, length, Some, None, refl, ap, if◌then◌else◌}
use Rattle.std.specs.Bool.{Decides}
use Rattle.std.specs.Prelude.{is_some}
use Rattle.std.proofs.lemmas.Bool.{le-ltb, ltb-false}
use Rattle.std.proofs.lemmas.Bool.Decides.{Decides-and, Decides-at, Decides-eqb, Decides-not}
use Rattle.process_packet.specs.declared.cause.Cause.{Cause}
use Rattle.process_packet.specs.Conditions.{CarriesMac, IsFarEnd, IsHere}
use Rattle.process_packet.specs.Network.{is_local, is_neighbor, is_remote, neighbor, own_link}
use Rattle.process_packet.specs.OneHopLaws.{LeadsTo}
use Rattle.process_packet.specs.OneHopRefusals.{BeginsHere, IsForThisAs, IsOnTime}
use Rattle.process_packet.specs.OneHopRows.{Dropped, OneHopVerdict, are_ends_lawful, begins_here, dropped_where, ends_where}
use Rattle.process_packet.specs.OneHopState.{OneHopState, exit, first, info, is_ahead, is_authentic, is_expired, is_external}
use Rattle.process_packet.specs.Underlay.{longest_datagram}
use Rattle.process_packet.proofs.ConditionLemmas.{carries_mac, external, far_end, in_time, is_here}
use Rattle.process_packet.proofs.OneHopConditionLemmas.{has_neighbor, leads_to}
use Rattle.process_packet.proofs.PassingLemmas.{not_true}

-- ---- a row, by what its test decides

pub shown : {P : Type 0} (t : Bool) (v : OneHopVerdict) → Decides (not t) P → ends_where t v ≡ None → P
shown true v decided none = absurd cc
shown false v decided none = decided.0 refl

pub lets : {P : Type 0} (t : Bool) (v : OneHopVerdict) → Decides (not t) P → P → ends_where t v ≡ None
lets true v decided is = let never : false ≡ true = decided.1 is in absurd cc
lets false v decided is = refl

pub ends : {P : Type 0} (t : Bool) (v : OneHopVerdict) → Decides (not t) P → (P → ⊥) → ends_where t v ≡ Some v
ends true v decided never = refl
ends false v decided never = absurd (never (decided.0 refl))

pub drops : {P : Type 0} (t : Bool) (why : Cause) → Decides (not t) P → (P → ⊥) → dropped_where t why ≡ Some (Dropped why)
drops t why decided never = ends t (Dropped why) decided never

-- a row for packets from one side alone lets go on what is from the other
pub lets_other : (side t : Bool) (v : OneHopVerdict) → side ≡ false → ends_where (side && t) v ≡ None
lets_other side t v other = ap (λ (b : Bool). ends_where (b && t) v) other

-- ---- what a test decides

on_side : {P : Type 0} (side t : Bool) → side ≡ true → Decides (not t) P → Decides (not (side && t)) P
on_side side t is decided = Decides-at (not (side && t)) (not t) (ap (λ (b : Bool). not (b && t)) is) decided

twice : {P : Type 0} (b : Bool) → Decides b P → Decides (not (not b)) P
twice true decided = decided
twice false decided = decided

neither : {P Q : Type 0} (a b : Bool) → Decides (not a) P → Decides (not b) Q → Decides (not (a || b)) (P × Q)
neither true b first second = (λ e. let never : false ≡ true = e in absurd cc, λ both. first.1 both.0)
neither false b first second = (λ e. (first.0 refl, second.0 e), λ both. second.1 both.1)

not_over : (most n : ℕ) → Decides (not (nat_lt most n)) (n ≤ most)
not_over most n = (λ e. ltb-false most n (not_true (nat_lt most n) e), λ fits. ap not (le-ltb most n fits))

module _ (s : OneHopState) where
  pub outside : s.link ≢ 0 → is_external s ≡ true
  outside other = (external s.link).1 other

  pub inside : s.link ≡ 0 → is_external s ≡ false
  inside zero = ap (λ (l : ℕ). not (l == 0)) zero

  within : s.link ≡ 0 → not (is_external s) ≡ true
  within zero = ap not (inside zero)

  -- ---- from either side

  abbrev pub is_too_long : Bool
  is_too_long = nat_lt longest_datagram (length s.bytes)

  pub short_asked : Decides (not is_too_long) (length s.bytes ≤ 9216)
  short_asked = not_over longest_datagram (length s.bytes)

  abbrev is_whole : Bool
  is_whole = s.packet.header.payload_length == length s.packet.payload

  abbrev pub is_not_whole : Bool
  is_not_whole = not is_whole

  pub whole_asked : Decides (not is_not_whole) (s.packet.header.payload_length ≡ length s.packet.payload)
  whole_asked = twice is_whole (Decides-eqb s.packet.header.payload_length (length s.packet.payload))

  abbrev pub has_other_time : Bool
  has_other_time = is_expired s || is_ahead s

  pub time_asked : Decides (not has_other_time) (IsOnTime s)
  time_asked = neither (is_expired s) (is_ahead s) (in_time (info s) (first s) s.moment) (not_over (s.moment + 300) (info s).timestamp)

  abbrev pub has_other_ends : Bool
  has_other_ends = not (are_ends_lawful s)

  abbrev are_ends_for : Bool → Bool
  are_ends_for b =
      if b then is_local s.network s.packet.header.destination && is_neighbor (neighbor s.network s.link) s.packet.header.source
      else is_local s.network s.packet.header.source

  ends_by : (b : Bool) → is_external s ≡ b → are_ends_lawful s ≡ are_ends_for b
  ends_by b is = ap are_ends_for is

  -- ---- from outside

  abbrev is_from_far_end : Bool
  is_from_far_end = is_remote (own_link s.network s.link) s.source

  abbrev pub is_from_other : Bool
  is_from_other = is_external s && not is_from_far_end

  pub router_asked : s.link ≢ 0 → Decides (not is_from_other) (IsFarEnd s.network s.link s.source)
  router_asked other = on_side (is_external s) (not is_from_far_end) (outside other) (twice is_from_far_end (far_end s.network s.link s.source))

  pub ends_asked_outside : s.link ≢ 0 → Decides (not has_other_ends) (IsForThisAs s)
  ends_asked_outside other =
      let h = s.packet.header in
      let both = Decides-and (is_local s.network h.destination) (is_neighbor (neighbor s.network s.link) h.source) (is_here s.network h.destination) (leads_to s.network s.link h.source) in
      twice (are_ends_lawful s) (Decides-at (are_ends_lawful s) (are_ends_for true) (ends_by true (outside other)) both)

  abbrev pub is_link_control : Bool
  is_link_control = is_external s && s.packet.header.next_header == 203

  pub host_asked : s.link ≢ 0 → Decides (not is_link_control) (s.packet.header.next_header ≢ 203)
  host_asked other =
      let of-bfd = s.packet.header.next_header == 203 in
      on_side (is_external s) of-bfd (outside other) (Decides-not of-bfd (Decides-eqb s.packet.header.next_header 203))

  -- ---- from inside

  pub ends_asked_inside : s.link ≡ 0 → Decides (not has_other_ends) (IsHere s.network s.packet.header.source)
  ends_asked_inside zero =
      twice (are_ends_lawful s) (Decides-at (are_ends_lawful s) (are_ends_for false) (ends_by false (inside zero)) (is_here s.network s.packet.header.source))

  abbrev pub has_other_exit : Bool
  has_other_exit = not (is_external s) && not (begins_here s)

  pub exit_asked : s.link ≡ 0 → Decides (not has_other_exit) (BeginsHere s)
  exit_asked zero =
      let both = Decides-and (is_some (neighbor s.network (exit s))) ((first s).construction_ingress == 0) (has_neighbor s.network (exit s)) (Decides-eqb (first s).construction_ingress 0) in
      on_side (not (is_external s)) (not (begins_here s)) (within zero) (twice (begins_here s) both)

  abbrev is_for_far_end : Bool
  is_for_far_end = is_neighbor (neighbor s.network (exit s)) s.packet.header.destination

  abbrev pub is_for_other : Bool
  is_for_other = not (is_external s) && not is_for_far_end

  pub far_end_asked : s.link ≡ 0 → Decides (not is_for_other) (LeadsTo s.network (exit s) s.packet.header.destination)
  far_end_asked zero = on_side (not (is_external s)) (not is_for_far_end) (within zero) (twice is_for_far_end (leads_to s.network (exit s) s.packet.header.destination))

  abbrev pub has_other_mac : Bool
  has_other_mac = not (is_external s) && not (is_authentic s)

  pub mac_asked : s.link ≡ 0 → Decides (not has_other_mac) (CarriesMac s.network.key (info s).segment_id (info s) (first s))
  mac_asked zero = on_side (not (is_external s)) (not (is_authentic s)) (within zero) (twice (is_authentic s) (carries_mac s.network.key (info s) (first s)))
