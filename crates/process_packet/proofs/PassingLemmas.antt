-- A row that refuses where its test applies did not apply to what was sent.
use Rattle.std.proofs.Common.{◌≡◌, ℕ, Bool, true, false, not, ◌&&◌, List, Option, Some, None, refl, sym, subst}
use Rattle.scion_packet.specs.Fault.{Fault}
use Rattle.scion_packet.specs.Packet.{Packet}
use Rattle.process_packet.specs.declared.cause.Cause.{Cause}
use Rattle.process_packet.specs.declared.decision.Problem.{Problem}
use Rattle.process_packet.specs.declared.underlay.Underlay.{Underlay}
use Rattle.process_packet.specs.Decide.{verdict_of}
use Rattle.process_packet.specs.Rows.{Verdict, Sent, Answered, Dropped, RowResult, GoesOn, Row, ends_where, faulty, then_rows}
use Rattle.process_packet.specs.PacketState.{PacketState}

abbrev pub parameter : ℕ → ℕ → Problem
parameter code pointer = record { kind = 4; code = code; pointer = pointer }

-- rows beginning with a turn end in a packet that is sent
abbrev pub Sends : RowResult → List Row → ℕ → Option Underlay → Packet → Type 0
Sends t rows out to p = verdict_of (then_rows t rows) ≡ Sent out to p

abbrev IsSent : Verdict → Type 0
IsSent (Sent out to p) = Unit {0}
IsSent (Answered q) = ⊥
IsSent (Dropped c) = ⊥

pub answered_not_sent : (q : Problem) (out : ℕ) (to : Option Underlay) (p : Packet) → Answered q ≡ Sent out to p → ⊥
answered_not_sent q out to p e = subst IsSent (sym e) tt

pub dropped_not_sent : (c : Cause) (out : ℕ) (to : Option Underlay) (p : Packet) → Dropped c ≡ Sent out to p → ⊥
dropped_not_sent c out to p e = subst IsSent (sym e) tt

-- the link, the address and the packet of what was sent
abbrev link_in : ℕ → Verdict → ℕ
link_in d (Sent out to p) = out
link_in d (Answered q) = d
link_in d (Dropped c) = d

abbrev to_in : Option Underlay → Verdict → Option Underlay
to_in d (Sent out to p) = to
to_in d (Answered q) = d
to_in d (Dropped c) = d

abbrev packet_in : Packet → Verdict → Packet
packet_in d (Sent out to p) = p
packet_in d (Answered q) = d
packet_in d (Dropped c) = d

pub record IsSame (out out' : ℕ) (to to' : Option Underlay) (p p' : Packet) : Type 0 where
  pub link : out ≡ out'
  pub address : to ≡ to'
  pub packet : p ≡ p'

pub same_sent : (out out' : ℕ) (to to' : Option Underlay) (p p' : Packet) → Sent out to p ≡ Sent out' to' p' → IsSame out out' to to' p p'
same_sent out out' to to' p p' e = record {
  link = subst (λ (v : Verdict). out ≡ link_in out v) e refl;
  address = subst (λ (v : Verdict). to ≡ to_in to v) e refl;
  packet = subst (λ (v : Verdict). p ≡ packet_in p v) e refl;
}

pub record Passed (t : Bool) (s : PacketState) (rows : List Row) (out : ℕ) (to : Option Underlay) (p : Packet) : Type 0 where
  pub clear : t ≡ false
  pub after : Sends (GoesOn s) rows out to p

pub answer_passed : (t : Bool) (q : Problem) (s : PacketState) (rows : List Row) (out : ℕ) (to : Option Underlay) (p : Packet)
    → Sends (ends_where t (Answered q) s) rows out to p → Passed t s rows out to p
answer_passed true q s rows out to p sent = absurd (answered_not_sent q out to p sent)
answer_passed false q s rows out to p sent = record { clear = refl; after = sent }

-- the same among rows within a row
pub answer_passed_within : (t : Bool) (q : Problem) (s : PacketState) (within rows : List Row) (out : ℕ) (to : Option Underlay) (p : Packet)
    → Sends (then_rows (ends_where t (Answered q) s) within) rows out to p → (t ≡ false) × Sends (then_rows (GoesOn s) within) rows out to p
answer_passed_within true q s within rows out to p sent = absurd (answered_not_sent q out to p sent)
answer_passed_within false q s within rows out to p sent = (refl, sent)

pub drop_passed : (t : Bool) (c : Cause) (s : PacketState) (rows : List Row) (out : ℕ) (to : Option Underlay) (p : Packet)
    → Sends (ends_where t (Dropped c) s) rows out to p → Passed t s rows out to p
drop_passed true c s rows out to p sent = absurd (dropped_not_sent c out to p sent)
drop_passed false c s rows out to p sent = record { clear = refl; after = sent }

pub fault_passed : (f : Option Fault) (s : PacketState) (rows : List Row) (out : ℕ) (to : Option Underlay) (p : Packet)
    → Sends (faulty f s) rows out to p → Sends (GoesOn s) rows out to p
fault_passed None s rows out to p sent = sent
fault_passed (Some f) s rows out to p sent = absurd (dropped_not_sent _ out to p sent)

-- ---- Booleans

pub both_true : (a b : Bool) → (a && b) ≡ true → (a ≡ true) × (b ≡ true)
both_true true b e = (refl, e)
both_true false true e = (e, refl)
both_true false false e = (e, e)

pub not_false : (b : Bool) → not b ≡ false → b ≡ true
not_false true e = refl
not_false false e = sym e

pub not_true : (b : Bool) → not b ≡ true → b ≡ false
not_true true e = sym e
not_true false e = refl

pub and_not : (a b : Bool) → (a && not b) ≡ false → a ≡ true → b ≡ true
and_not true b e a-is = not_false b e
and_not false true e a-is = refl
and_not false false e a-is = a-is

-- what isn't both isn't the second where it is the first
pub other_false : (a b : Bool) → (a && b) ≡ false → a ≡ true → b ≡ false
other_false true b e a-is = e
other_false false true e a-is = sym a-is
other_false false false e a-is = refl
