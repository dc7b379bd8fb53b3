-- The pipes by their numbers, and which of them an item goes to.
use Rattle.std.specs.Prelude.{ℕ, Bool, ◌&&◌, ◌+◌, ◌*◌, if◌then◌else◌}
use Rattle.order_laws.specs.Kinds.{Kinds}
use Rattle.order_laws.specs.Item.{Outgoing, Item, Packet, Out}
use Rattle.order_laws.specs.Rules.{Rules}

module _ {K : Kinds} where
  -- Places of pipes in their list: the arrivals of each link, the processors' pipes, the slow path's, two of each link. On a
  -- link with one band the high one stays empty.

  -- the place of the slow path's, and its seat among the workers
  abbrev pub slow_seat : Rules K → ℕ
  slow_seat R = R.links + R.processors

  abbrev pub pipe_count : Rules K → ℕ
  pipe_count R = slow_seat R + 1 + 2 * R.links

  abbrev pub link_pipe : Rules K → Bool → ℕ → ℕ
  link_pipe R high l = slow_seat R + 1 + 2 * l + (if high then 1 else 0)

  abbrev pub is_high : Rules K → Outgoing K → Bool
  is_high R o = R.two_bands o.link && R.urgent_parcel o.parcel

  -- the pipe that an item goes to: its flow's processor, the slow path, its leaving link in its band. Nobody owes an arrival
  -- or a mark
  abbrev pub home : Rules K → Item K → ℕ
  home R (Packet x) = R.links + R.processor (R.key x)
  home R (Out o) = link_pipe R (is_high R o) o.link
  home R _ = slow_seat R
