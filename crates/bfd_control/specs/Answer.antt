-- The control packet that answers another one, of an end that keeps no session (RFC 5880, 4.1 and 6.8.7).
use Rattle.std.specs.Prelude.{ℕ, false, max, List}
use Rattle.bfd_control.specs.declared.state.State.{State}
use Rattle.bfd_control.specs.declared.state.State.TheVariants.{AdminDown, Down, Init, Up}
use Rattle.bfd_control.specs.ControlPacket.{ControlPacket, control_packet_of, control_text}
use Rattle.bfd_control.specs.Session.{answered_state}

-- the least time between two packets that may be told in a state, in microseconds: a fifth of a second, and a second where the
-- session isn't up
abbrev pub shortest_interval : State → ℕ
shortest_interval AdminDown = 1000000
shortest_interval Down = 1000000
shortest_interval Init = 1000000
shortest_interval Up = 200000

-- Answers come as often as the neighbour's packets.
abbrev pub min_tx : State → ℕ → ℕ
min_tx state neighbors = max neighbors (shortest_interval state)

abbrev pub answer : ℕ → ControlPacket → ControlPacket
answer own received = record {
  version = 1;
  diagnostic = 0;
  state = answered_state received.state;
  poll = false;
  final = received.poll;
  control_plane_independent = false;
  authentication_present = false;
  demand = false;
  multipoint = false;
  detect_multiplier = 3;
  packet_length = 24;
  my_discriminator = own;
  your_discriminator = received.my_discriminator;
  desired_min_tx = min_tx (answered_state received.state) received.desired_min_tx;
  required_min_rx = 200000;
  required_min_echo_rx = 0;
}

-- the bytes of the answer to a packet of these bytes, by the own discriminator
abbrev pub answer_text : ℕ → List ℕ → List ℕ
answer_text own bytes = control_text (answer own (control_packet_of bytes))
