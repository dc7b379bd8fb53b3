-- Control packets as a neighbour sends them, read, tested and answered by hand: the definitions compute what a reader of the
-- standard would.
use Rattle.std.specs.Prelude.{◌≡◌, ℕ, true, false, List, [], ◌∷◌, ◌++◌, refl}
use Rattle.bfd_control.specs.declared.state.State.TheVariants.{Down}
use Rattle.bfd_control.specs.Answer.{answer_text}
use Rattle.bfd_control.specs.ControlPacket.{ControlPacket, control_packet_of, control_text}
use Rattle.bfd_control.specs.Reception.{is_taken}

-- by its first four bytes, the sender's discriminator, the receiver's and the desired min TX; a packet is taken every 200,000
-- microseconds
abbrev pub packet : List ℕ → List ℕ → List ℕ → List ℕ → List ℕ
packet front mine yours tx = front ++ (mine ++ (yours ++ (tx ++ (0x00 ∷ 0x03 ∷ 0x0d ∷ 0x40 ∷ 0x00 ∷ 0x00 ∷ 0x00 ∷ 0x00 ∷ []))))

-- discriminators, and times of a second, of 100,000 microseconds and of two seconds
abbrev pub theirs : List ℕ
theirs = 0xc0 ∷ 0xff ∷ 0xee ∷ 0x01 ∷ []

abbrev pub none : List ℕ
none = 0x00 ∷ 0x00 ∷ 0x00 ∷ 0x00 ∷ []

abbrev pub ours : List ℕ
ours = 0x00 ∷ 0x00 ∷ 0x00 ∷ 0x29 ∷ []

abbrev pub one_second : List ℕ
one_second = 0x00 ∷ 0x0f ∷ 0x42 ∷ 0x40 ∷ []

abbrev pub tenth_of_a_second : List ℕ
tenth_of_a_second = 0x00 ∷ 0x01 ∷ 0x86 ∷ 0xa0 ∷ []

abbrev pub two_seconds : List ℕ
two_seconds = 0x00 ∷ 0x1e ∷ 0x84 ∷ 0x80 ∷ []

abbrev pub fifth_of_a_second : List ℕ
fifth_of_a_second = 0x00 ∷ 0x03 ∷ 0x0d ∷ 0x40 ∷ []

-- ---- read: the first packet of a session that is down, and one that has each flag but A and M

abbrev pub first : List ℕ
first = packet (0x20 ∷ 0x40 ∷ 0x03 ∷ 0x18 ∷ []) theirs none one_second

pub first_is_read : control_packet_of first ≡ record {
  version = 1;
  diagnostic = 0;
  state = Down;
  poll = false;
  final = false;
  control_plane_independent = false;
  authentication_present = false;
  demand = false;
  multipoint = false;
  detect_multiplier = 3;
  packet_length = 24;
  my_discriminator = 0xc0ffee01;
  your_discriminator = 0;
  desired_min_tx = 1000000;
  required_min_rx = 200000;
  required_min_echo_rx = 0;
}
first_is_read = refl

pub first_is_spelled : control_text (control_packet_of first) ≡ first
first_is_spelled = refl

abbrev pub flagged : ControlPacket
flagged = control_packet_of (packet (0x23 ∷ 0x7a ∷ 0x05 ∷ 0x18 ∷ []) theirs ours one_second)

pub flags_are_read : flagged ≡ record {
  version = 1;
  diagnostic = 3;
  state = Down;
  poll = true;
  final = true;
  control_plane_independent = true;
  authentication_present = false;
  demand = true;
  multipoint = false;
  detect_multiplier = 5;
  packet_length = 24;
  my_discriminator = 0xc0ffee01;
  your_discriminator = 41;
  desired_min_tx = 1000000;
  required_min_rx = 200000;
  required_min_echo_rx = 0;
}
flags_are_read = refl

-- ---- tested, by an end whose discriminator is 41

pub first_is_taken : is_taken 41 first ≡ true
first_is_taken = refl

pub ours_is_taken : is_taken 41 (packet (0x20 ∷ 0xc0 ∷ 0x03 ∷ 0x18 ∷ []) theirs ours one_second) ≡ true
ours_is_taken = refl

pub held_down_is_taken : is_taken 41 (packet (0x20 ∷ 0x00 ∷ 0x03 ∷ 0x18 ∷ []) theirs none one_second) ≡ true
held_down_is_taken = refl

-- more bytes may come, and the length may cover them
pub longer_is_taken : is_taken 41 (packet (0x20 ∷ 0x40 ∷ 0x03 ∷ 0x19 ∷ []) theirs none one_second ++ (0x00 ∷ [])) ≡ true
longer_is_taken = refl

pub version_0_is_refused : is_taken 41 (packet (0x00 ∷ 0x40 ∷ 0x03 ∷ 0x18 ∷ []) theirs none one_second) ≡ false
version_0_is_refused = refl

pub shorter_is_refused : is_taken 41 (packet (0x20 ∷ 0x40 ∷ 0x03 ∷ 0x17 ∷ []) theirs none one_second) ≡ false
shorter_is_refused = refl

pub longer_is_refused : is_taken 41 (packet (0x20 ∷ 0x40 ∷ 0x03 ∷ 0x19 ∷ []) theirs none one_second) ≡ false
longer_is_refused = refl

pub authenticated_is_refused : is_taken 41 (packet (0x20 ∷ 0x44 ∷ 0x03 ∷ 0x18 ∷ []) theirs none one_second) ≡ false
authenticated_is_refused = refl

pub no_multiplier_is_refused : is_taken 41 (packet (0x20 ∷ 0x40 ∷ 0x00 ∷ 0x18 ∷ []) theirs none one_second) ≡ false
no_multiplier_is_refused = refl

pub multipoint_is_refused : is_taken 41 (packet (0x20 ∷ 0x41 ∷ 0x03 ∷ 0x18 ∷ []) theirs none one_second) ≡ false
multipoint_is_refused = refl

pub no_sender_is_refused : is_taken 41 (packet (0x20 ∷ 0x40 ∷ 0x03 ∷ 0x18 ∷ []) none none one_second) ≡ false
no_sender_is_refused = refl

pub another_is_refused : is_taken 42 (packet (0x20 ∷ 0xc0 ∷ 0x03 ∷ 0x18 ∷ []) theirs ours one_second) ≡ false
another_is_refused = refl

pub init_to_none_is_refused : is_taken 41 (packet (0x20 ∷ 0x80 ∷ 0x03 ∷ 0x18 ∷ []) theirs none one_second) ≡ false
init_to_none_is_refused = refl

pub up_to_none_is_refused : is_taken 41 (packet (0x20 ∷ 0xc0 ∷ 0x03 ∷ 0x18 ∷ []) theirs none one_second) ≡ false
up_to_none_is_refused = refl

-- ---- answered: Down by Init, Init and Up by Up, and what is held down by Down

pub down_is_answered : answer_text 41 first ≡ packet (0x20 ∷ 0x80 ∷ 0x03 ∷ 0x18 ∷ []) ours theirs one_second
down_is_answered = refl

-- no more often than each second while it isn't up
pub down_is_answered_slowly : answer_text 41 (packet (0x20 ∷ 0x40 ∷ 0x03 ∷ 0x18 ∷ []) theirs none tenth_of_a_second) ≡ packet (0x20 ∷ 0x80 ∷ 0x03 ∷ 0x18 ∷ []) ours theirs one_second
down_is_answered_slowly = refl

pub init_is_answered : answer_text 41 (packet (0x20 ∷ 0x80 ∷ 0x03 ∷ 0x18 ∷ []) theirs ours one_second) ≡ packet (0x20 ∷ 0xc0 ∷ 0x03 ∷ 0x18 ∷ []) ours theirs one_second
init_is_answered = refl

-- a poll as final
pub up_is_answered : answer_text 41 (packet (0x20 ∷ 0xe0 ∷ 0x03 ∷ 0x18 ∷ []) theirs ours tenth_of_a_second) ≡ packet (0x20 ∷ 0xd0 ∷ 0x03 ∷ 0x18 ∷ []) ours theirs fifth_of_a_second
up_is_answered = refl

pub held_down_is_answered : answer_text 41 (packet (0x20 ∷ 0x00 ∷ 0x03 ∷ 0x18 ∷ []) theirs none tenth_of_a_second) ≡ packet (0x20 ∷ 0x40 ∷ 0x03 ∷ 0x18 ∷ []) ours theirs one_second
held_down_is_answered = refl

-- as seldom as the neighbour
pub seldom_is_answered : answer_text 41 (packet (0x20 ∷ 0xc0 ∷ 0x03 ∷ 0x18 ∷ []) theirs ours two_seconds) ≡ packet (0x20 ∷ 0xc0 ∷ 0x03 ∷ 0x18 ∷ []) ours theirs two_seconds
seldom_is_answered = refl
