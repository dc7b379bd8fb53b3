-- A BFD control packet, without authentication (RFC 5880, 4.1).
use Rattle.std.specs.Prelude.{◌==◌, ℕ, Bool, true, false, ◌/◌, ◌%◌, List, [], ◌∷◌, slice_index}
use Rattle.field_rows.specs.Row.{Field, Fits, field, rows}
use Rattle.field_rows.specs.Place.{StandsAt, number_at}
use Rattle.bfd_control.specs.declared.state.State.{State}
use Rattle.bfd_control.specs.Session.{number_of, state_of}

pub record ControlPacket : Type 0 where
  pub version : ℕ
  pub diagnostic : ℕ
  pub state : State
  pub poll : Bool
  pub final : Bool
  pub control_plane_independent : Bool
  pub authentication_present : Bool
  pub demand : Bool
  pub multipoint : Bool
  pub detect_multiplier : ℕ
  pub packet_length : ℕ  -- in bytes
  pub my_discriminator : ℕ  -- the sender's
  pub your_discriminator : ℕ  -- the receiver's, as far as the sender has heard it, else 0
  -- in microseconds
  pub desired_min_tx : ℕ
  pub required_min_rx : ℕ
  pub required_min_echo_rx : ℕ

-- ---- the table, row by row

-- a flag as a bit
abbrev pub bit : Bool → ℕ
bit false = 0
bit true = 1

-- 24 bytes
abbrev pub control_table : ControlPacket → List (List Field)
control_table p =
    (field 3 p.version ∷ field 5 p.diagnostic ∷ [])
    ∷ (
    field 2 (number_of p.state)
    ∷ field 1 (bit p.poll)
    ∷ field 1 (bit p.final)
    ∷ field 1 (bit p.control_plane_independent)
    ∷ field 1 (bit p.authentication_present)
    ∷ field 1 (bit p.demand)
    ∷ field 1 (bit p.multipoint)
    ∷ []
    )
    ∷ (field 8 p.detect_multiplier ∷ [])
    ∷ (field 8 p.packet_length ∷ [])
    ∷ (field 32 p.my_discriminator ∷ [])
    ∷ (field 32 p.your_discriminator ∷ [])
    ∷ (field 32 p.desired_min_tx ∷ [])
    ∷ (field 32 p.required_min_rx ∷ [])
    ∷ (field 32 p.required_min_echo_rx ∷ [])
    ∷ []

abbrev pub control_text : ControlPacket → List ℕ
control_text p = rows (control_table p)

-- The bytes begin with this control packet.
pub record SpellsControlPacket (bytes : List ℕ) (p : ControlPacket) : Type 0 where
  pub fits : Fits (control_table p)
  pub text : StandsAt bytes 0 (control_text p)

-- ---- the packet of bytes: each number from its place

-- a flag of the second byte, by the value of its bit
abbrev pub flag_of : List ℕ → ℕ → Bool
flag_of bytes value = slice_index bytes 1 / value % 2 == 1

abbrev pub control_packet_of : List ℕ → ControlPacket
control_packet_of bytes = record {
  version = slice_index bytes 0 / 32;
  diagnostic = slice_index bytes 0 % 32;
  state = state_of (slice_index bytes 1 / 64);
  poll = flag_of bytes 32;
  final = flag_of bytes 16;
  control_plane_independent = flag_of bytes 8;
  authentication_present = flag_of bytes 4;
  demand = flag_of bytes 2;
  multipoint = flag_of bytes 1;
  detect_multiplier = slice_index bytes 2;
  packet_length = slice_index bytes 3;
  my_discriminator = number_at bytes 4 4;
  your_discriminator = number_at bytes 8 4;
  desired_min_tx = number_at bytes 12 4;
  required_min_rx = number_at bytes 16 4;
  required_min_echo_rx = number_at bytes 20 4;
}
