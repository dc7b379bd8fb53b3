-- What the code tells of a reply.
use Rattle.std.specs.Prelude.{◌≡◌, ◌≤◌, ℕ, Bool, true, false, List, take, length, Option, None}
use Rattle.process_packet.specs.declared.cause.Cause.{Cause}
use Rattle.process_packet.specs.declared.underlay.Underlay.{Underlay}
use Rattle.scion_packet.specs.Packet.{IsPacket, Packet, first_fault, spelling}
use Rattle.scmp_answer.specs.Checksum.{ones_complement_sum, summed, words}
use Rattle.scmp_answer.specs.Message.{longest}
use Rattle.scmp_answer.specs.Reply.{Dropped, Reply, Sent}
use Rattle.scmp_answer.specs.declared.outcome.AnswerLen.{AnswerLen}
use Rattle.scmp_answer.specs.declared.outcome.AnswerLen.TheVariants as len
use Rattle.scmp_answer.specs.declared.outcome.Answered.{Answered}
use Rattle.scmp_answer.specs.declared.outcome.Answered.TheVariants as answered

-- a link, an underlay address and the bytes that are sent there, or a drop
pub data Outcome : Type 0 where
  Leaves : ℕ → Option Underlay → List ℕ → Outcome
  Stays : Cause → Outcome

abbrev pub outcome : Reply → Outcome
outcome (Sent link to p) = Leaves link to (spelling p)
outcome (Dropped cause) = Stays cause

-- with the bytes at the front of a buffer
abbrev pub outcome_in : List ℕ → AnswerLen → Outcome
outcome_in buffer (len.Send link to n) = Leaves link to (take n buffer)
outcome_in buffer (len.Drop cause) = Stays cause

abbrev pub outcome_of : Answered → Outcome
outcome_of (answered.Send link to bytes) = Leaves link to bytes.items
outcome_of (answered.Drop cause) = Stays cause

abbrev pub is_sent : Reply → Bool
is_sent (Sent link to p) = true
is_sent (Dropped cause) = false

abbrev pub is_dropped : AnswerLen → Bool
is_dropped (len.Send link to n) = false
is_dropped (len.Drop cause) = true

-- how many bytes of the buffer are used
abbrev pub used : AnswerLen → ℕ
used (len.Send link to n) = n
used (len.Drop cause) = 0

-- An answer spells a packet, so a reader finds no fault; it is short enough for every link, and its checksum is right:
-- the sum of all words, the checksum among them, is that of which each bit is 1.
pub record IsGood (p : Packet) : Type 0 where
  pub lawful : IsPacket p
  pub no_fault : first_fault (spelling p) ≡ None
  pub short : length (spelling p) ≤ longest
  pub sound : ones_complement_sum (words (summed p.header p.payload)) ≡ 65535

abbrev pub IfSent : Reply → (Packet → Type 0) → Type 0
IfSent (Sent link to p) P = P p
IfSent (Dropped cause) P = Unit {0}

-- The first bytes of the buffer are the answer.
pub record IsWritten (p : Packet) (len : ℕ) (buffer : List ℕ) : Type 0 where
  pub whole : len ≡ length (spelling p)
  pub text : take len buffer ≡ spelling p
  pub good : IsGood p
