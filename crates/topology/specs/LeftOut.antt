-- What isn't carried over.
use Rattle.std.specs.Prelude.{ℕ, List}
use Rattle.process_packet.specs.declared.port_range.PortRange.{PortRange}
use Rattle.topology.specs.declared.left_out.LeftOut.{LeftOut}
use Rattle.topology.specs.declared.left_out.LeftOut.TheVariants.{Further, Peering, Ports, Provider, Timer}
use Rattle.topology.specs.Place.{NamedPlace, named}

pub data Left : Type 0 where
  peering : NamedPlace → Left
  provider : NamedPlace → List ℕ → Left
  timer : NamedPlace → List ℕ → Left
  further : NamedPlace → Left
  ports : PortRange → Left

abbrev pub left : LeftOut → Left
left (Peering place) = peering (named place)
left (Provider place name) = provider (named place) name.now
left (Timer place key) = timer (named place) key.now
left (Further place) = further (named place)
left (Ports range) = ports range
