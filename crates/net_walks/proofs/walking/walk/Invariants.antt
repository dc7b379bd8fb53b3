use Rattle.std.proofs.Common.{All, ◌≡◌, ◌<◌, ◌++◌, ◌-◌, Some, length, map}
use Rattle.net_laws.specs.Net.{net_of}
use Rattle.net_walks.specs.Stops.{IsStop, came_by, came_to, stops_from}
use Rattle.net_walks.specs.Coming as way
use Rattle.net_walks.proofs.walking.walk.Given as goal

abbrev pub invariant-loop : goal.invariant-loop
invariant-loop l = record {
  there : l.coming.router < length l.net.configs.items;
  moment : l.coming.arrival.now ≡ l.arrival.now;
  made : map came_by l.stops.items ++ stops_from (net_of l.net) l.arrival.now (128 - l.counter) (Some (way.coming l.coming))
      ≡ stops_from (net_of l.net) l.arrival.now 128 (Some (came_to l.router l.arrival));
  stops : All (IsStop (net_of l.net) l.arrival.now) l.stops.items;
}
