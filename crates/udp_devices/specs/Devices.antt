-- What contracts see of devices over a socket.
use Rattle.std.specs.Prelude.{ℕ}
use Rattle.process_packet.specs.declared.underlay.Underlay.{Underlay}
use Rattle.udp_devices.specs.declared.ends.Ends.{Ends}

-- of a source, the address at which its socket was opened, and how often it failed
pub record Reading : Type 0 where
  pub local : Underlay
  pub failed : ℕ

-- of a sink, the ends of its link, and how often it failed
pub record Sending : Type 0 where
  pub ends : Ends
  pub failed : ℕ
