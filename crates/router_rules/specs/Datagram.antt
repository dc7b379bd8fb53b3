-- What goes through the pipeline, as lists of bytes.
use Rattle.std.specs.Prelude.{ℕ, List, Option}
use Rattle.process_packet.specs.declared.underlay.Underlay.{Underlay}

-- a datagram that arrived
pub record Datagram : Type 0 where
  pub interface : ℕ  -- of the link by which it came; 0 is the internal network
  pub source : Underlay
  pub moment : ℕ  -- in seconds of Unix time
  pub bytes : List ℕ

-- what leaves: a packet, or the answer to one
pub record Parcel : Type 0 where
  pub came_by : ℕ  -- the interface by which the packet came
  pub to : Option Underlay  -- absent on an external link
  pub bytes : List ℕ
