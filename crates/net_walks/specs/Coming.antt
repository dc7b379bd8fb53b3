-- A datagram that comes to a router next.
use Rattle.net_walks.specs.Stops.{Came, came_to}
use Rattle.net_walks.specs.declared.walking.Coming.{Coming}

abbrev pub coming : Coming → Came
coming c = came_to c.router c.arrival
