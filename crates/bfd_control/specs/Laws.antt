-- What is promised of control packets, of sessions and of answers.
use Rattle.std.specs.Bool.{Decides}
use Rattle.std.specs.Prelude.{◌≡◌, ◌≢◌, ◌≤◌, ◌<◌, ◌⊎◌, ◌^◌, ℕ, true, false, List, length}
use Rattle.field_rows.specs.Place.{IsBytes}
use Rattle.bfd_control.specs.declared.state.State.{State}
use Rattle.bfd_control.specs.declared.state.State.TheVariants.{AdminDown, Down, Init, Up}
use Rattle.bfd_control.specs.Answer.{answer, answer_text}
use Rattle.bfd_control.specs.ControlPacket.{ControlPacket, SpellsControlPacket, control_packet_of}
use Rattle.bfd_control.specs.Reception.{is_taken}
use Rattle.bfd_control.specs.Session.{after_answers, answered_state, next_state}

-- ---- packets

-- What is read of 24 bytes is spelled by them, and nothing else is.
pub record ControlPacketLaws : Type 0 where
  pub spelled : (bytes : List ℕ) → IsBytes bytes → 24 ≤ length bytes → SpellsControlPacket bytes (control_packet_of bytes)
  pub only : (bytes : List ℕ) (p : ControlPacket) → SpellsControlPacket bytes p → p ≡ control_packet_of bytes

-- each of the standard's tests, and what a receiver says of its discriminator
pub record PassesTests (own : ℕ) (bytes : List ℕ) (p : ControlPacket) : Type 0 where
  pub long_enough : 24 ≤ length bytes
  pub version : p.version ≡ 1
  pub covers : 24 ≤ p.packet_length
  pub inside : p.packet_length ≤ length bytes
  pub not_authenticated : p.authentication_present ≡ false
  pub multiplier : p.detect_multiplier ≢ 0
  pub one_receiver : p.multipoint ≡ false
  pub sender : p.my_discriminator ≢ 0
  pub receiver : p.your_discriminator ≢ 0 → p.your_discriminator ≡ own
  pub begins : p.your_discriminator ≡ 0 → (p.state ≡ Down) ⊎ (p.state ≡ AdminDown)

abbrev pub ReceptionTests : Type 0
ReceptionTests = (own : ℕ) (bytes : List ℕ) → Decides (is_taken own bytes) (PassesTests own bytes (control_packet_of bytes))

-- ---- sessions

-- what the standard says of the state of a session that has heard a packet in the state `heard`
pub record SessionsGoSo : Type 0 where
  pub held_down : (heard : State) → next_state AdminDown heard ≡ AdminDown
  pub neighbor_held_down : (own : State) → own ≢ AdminDown → next_state own AdminDown ≡ Down
  pub down_to_init : next_state Down Down ≡ Init
  pub down_to_up : next_state Down Init ≡ Up
  pub down_stays : next_state Down Up ≡ Down
  pub init_to_up : (heard : State) → (heard ≡ Init) ⊎ (heard ≡ Up) → next_state Init heard ≡ Up
  pub init_stays : next_state Init Down ≡ Init
  pub up_to_down : next_state Up Down ≡ Down
  pub up_stays : (heard : State) → (heard ≡ Init) ⊎ (heard ≡ Up) → next_state Up heard ≡ Up

-- the state of a session that has heard the packet: of one that was down; where the neighbour is up and so has heard this end, of
-- one that had heard it too
pub record AnswersTellStates : Type 0 where
  pub begins : (received : State) → received ≢ Up → answered_state received ≡ next_state Down received
  pub goes_on : (own : State) → (own ≡ Init) ⊎ (own ≡ Up) → answered_state Up ≡ next_state own Up

-- A neighbour that hears the answer to each packet is up after the first, and from then on. Where the first answer is to a packet
-- that it had sent earlier, in whatever state, it is after the second.
pub record AnswersBringUp : Type 0 where
  pub up : (own : State) (n : ℕ) → own ≢ AdminDown → 1 ≤ n → after_answers n own ≡ Up
  pub late : (own earlier : State) (n : ℕ) → own ≢ AdminDown → 1 ≤ n → after_answers n (next_state own (answered_state earlier)) ≡ Up

-- ---- answers

-- What the standard says of a packet that is sent after another one was heard: it tells the session's state, ends a poll and begins
-- none (6.5), and while the session isn't up a second lies between two packets at least (6.8.3).
pub record IsOrderly (sent heard : ControlPacket) : Type 0 where
  pub state_is : sent.state ≡ answered_state heard.state
  pub ends_poll : sent.final ≡ heard.poll
  pub begins_none : sent.poll ≡ false
  pub seldom : sent.state ≢ Up → 1000000 ≤ sent.desired_min_tx

abbrev pub AnswersAreOrderly : Type 0
AnswersAreOrderly = (own : ℕ) (received : ControlPacket) → IsOrderly (answer own received) received

-- It is a packet of 24 bytes with these fields, and the sender of the packet that is answered takes it.
pub record IsTakenBack (own : ℕ) (bytes : List ℕ) : Type 0 where
  pub spelled : SpellsControlPacket (answer_text own bytes) (answer own (control_packet_of bytes))
  pub len : length (answer_text own bytes) ≡ 24
  pub taken : is_taken (control_packet_of bytes).my_discriminator (answer_text own bytes) ≡ true

abbrev pub AnswersAreTaken : Type 0
AnswersAreTaken = (own : ℕ) (bytes : List ℕ) → 1 ≤ own → own < 2 ^ 32 → IsBytes bytes → is_taken own bytes ≡ true → IsTakenBack own bytes
