-- The pipeline before its first step, and what may arrive.
use Rattle.std.specs.Prelude.{◌≡◌, ◌+◌, ℕ, List, [], ◌∷◌, length, map}
use Rattle.std.specs.List.{range_with_len}
use Rattle.std.specs.declared.alloc.Global.{Global}
use Rattle.std.specs.declared.vec.Vec.{Vec}
use Rattle.order_laws.specs.Item.{Item}
use Rattle.replay_laws.specs.Pipe.{Entry, Pipe}
use Rattle.replay_laws.specs.Start.{arrivals, first_world}
use Rattle.replay_laws.specs.Worker.{Receiver}
use Rattle.replay_laws.specs.World.{World}
use Rattle.process_packet.specs.declared.arrival.Arrival.{Arrival as Came}
use Rattle.process_packet.specs.declared.config.Config.{Config}
use Rattle.router_rules.specs.Links.{link_count, link_index}
use Rattle.router_rules.specs.Rules.{kinds, rules}
use Rattle.replay_state.specs.Arrivals.{sources_from}
use Rattle.pipe_model.specs.Pipeline.{Pipeline}

-- what arrives on each link, received or not: receivers' pipes keep it
abbrev pub arriving : Config → World kinds → List (List (Item kinds))
arriving c w = map (arrivals w) (range_with_len 0 (link_count c))

abbrev pub entry_of : ℕ → Item kinds → Entry kinds
entry_of a x = record { from = Receiver a; item = x }

-- the links' sources from a on, with nothing of them received
abbrev pub sources_of : ℕ → List (List (Item kinds)) → List (Pipe kinds)
sources_of a [] = []
sources_of a (xs ∷ rest) = record { history = map (entry_of a) xs; taken = 0; capacity = 0; refusals = [] } ∷ sources_of (a + 1) rest

-- the world that it all began with: pipes of the configured capacity, and what arrives, none of it received
abbrev pub start_of : Config → World kinds → World kinds
start_of c w = first_world (rules c) c.capacity (sources_of 0 (arriving c w))

-- before the first step
abbrev pub begun : Config → List (Vec Came Global) → Pipeline
begun c arrivals = record { config = c; world = first_world (rules c) c.capacity (sources_from 0 arrivals) }

-- they came by link a, and are numbered from n
abbrev pub AreNumbered : Config → ℕ → ℕ → List Came → Type 0
AreNumbered c a n [] = Unit {0}
AreNumbered c a n (x ∷ xs) = (link_index c x.link ≡ a) × (x.number ≡ n) × AreNumbered c a (n + 1) xs

-- a list for each link from a on, in ascending order of the interfaces, each numbered from 1
abbrev pub AreFrom : Config → ℕ → List (Vec Came Global) → Type 0
AreFrom c a [] = Unit {0}
AreFrom c a (xs ∷ rest) = AreNumbered c a 1 xs.items × AreFrom c (a + 1) rest

-- a list for each link of the configuration
abbrev pub AreArrivals : Config → List (Vec Came Global) → Type 0
AreArrivals c arrivals = (length arrivals ≡ link_count c) × AreFrom c 0 arrivals
