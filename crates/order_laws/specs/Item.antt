-- What stands in a pipe or in a worker's hand.
use Rattle.std.specs.Prelude.{ℕ, Bool, ◌&&◌, ◌==◌}
use Rattle.order_laws.specs.Kinds.{Kinds}

-- A datagram as it arrived. The links are numbered from 0; a link's datagrams are numbered from 1.
pub record Arrival (K : Kinds) : Type 0 where
  pub link : ℕ
  pub number : ℕ
  pub datagram : K.Datagram

-- A packet on its way out, or the answer to one. It is named by the arriving link and the number there.
pub record Outgoing (K : Kinds) : Type 0 where
  pub arrived : ℕ
  pub number : ℕ
  pub answer : Bool
  pub link : ℕ
  pub parcel : K.Parcel

pub data Item (K : Kinds) : Type 0 where
  Arrived : Arrival K → Item K  -- not yet received
  Packet : Arrival K → Item K  -- received, for a processor
  Request : Arrival K → K.Problem → Item K  -- for the slow path, which answers it
  Out : Outgoing K → Item K  -- for a forwarder
  Close : Item K  -- the mark that closes a link
  End : Item K  -- the last that a worker pushes

-- the packet number n of link a
abbrev pub is_one : ℕ → ℕ → ℕ → ℕ → Bool
is_one a n link number = (link == a) && (number == n)
