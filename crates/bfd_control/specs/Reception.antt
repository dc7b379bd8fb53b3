-- The tests of a control packet on reception (RFC 5880, 6.8.6), as far as they need no session but its discriminator.
use Rattle.std.specs.Prelude.{ℕ, Bool, not, ◌&&◌, ◌==◌, nat_le, List, length, if◌then◌else◌}
use Rattle.bfd_control.specs.ControlPacket.{ControlPacket, control_packet_of}
use Rattle.bfd_control.specs.Session.{is_down}

-- of a packet that came in so many bytes: version 1, a length from 24 to these bytes, no authentication, a detect multiplier
-- and a discriminator of the sender, and not multipoint
abbrev pub is_sound : ℕ → ControlPacket → Bool
is_sound len p =
    p.version == 1
    && nat_le 24 p.packet_length
    && nat_le p.packet_length len
    && not p.authentication_present
    && not (p.detect_multiplier == 0)
    && not p.multipoint
    && not (p.my_discriminator == 0)

-- it names the session with this discriminator; or none, as one does whose session is down
abbrev pub is_for : ℕ → ControlPacket → Bool
is_for own p = if p.your_discriminator == 0 then is_down p.state else p.your_discriminator == own

-- of the bytes that came, by a session's own discriminator
abbrev pub is_taken : ℕ → List ℕ → Bool
is_taken own bytes = nat_le 24 (length bytes) && (is_sound (length bytes) (control_packet_of bytes) && is_for own (control_packet_of bytes))
