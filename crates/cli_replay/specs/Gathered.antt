-- The pipeline before its first step, with the datagrams of a replay before its receivers.
use Rattle.std.specs.Prelude.{◌≡◌, ℕ, ◌+◌, ◌==◌, if◌then◌else◌, List, [], ◌∷◌, length, map}
use Rattle.std.specs.List.{range_with_len}
use Rattle.std.specs.declared.alloc.Global.{Global}
use Rattle.std.specs.declared.vec.Vec.{Vec}
use Rattle.order_laws.specs.Item.{Arrived}
use Rattle.replay_laws.specs.Pipe.{Entry, Pipe}
use Rattle.replay_laws.specs.Start.{first_world}
use Rattle.replay_laws.specs.Worker.{Receiver}
use Rattle.process_packet.specs.declared.arrival.Arrival.{Arrival as Came}
use Rattle.process_packet.specs.declared.config.Config.{Config}
use Rattle.router_rules.specs.Datagram.{Datagram}
use Rattle.router_rules.specs.Links.{link_count, link_index}
use Rattle.router_rules.specs.Rules.{kinds, rules}
use Rattle.pipe_model.specs.Begun.{AreArrivals, AreNumbered, begun}
use Rattle.replay_state.specs.Arrivals.{source_entry}
use Rattle.pipe_model.specs.Pipeline.{Pipeline}

-- number n on link a
abbrev pub entry : ℕ → ℕ → Datagram → Entry kinds
entry a n d = record { from = Receiver a; item = Arrived (record { link = a; number = n; datagram = d }) }

-- those that came by link a, numbered from n in their order
abbrev pub numbered : Config → ℕ → ℕ → List Datagram → List (Entry kinds)
numbered c a n [] = []
numbered c a n (d ∷ ds) = if link_index c d.interface == a then entry a n d ∷ numbered c a (n + 1) ds else numbered c a n ds

-- what arrives on link a, none of it received
abbrev pub source_of : Config → List Datagram → ℕ → Pipe kinds
source_of c ds a = record { history = numbered c a 1 ds; taken = 0; capacity = 0; refusals = [] }

unfoldable pub starting : Config → List Datagram → Pipeline
starting c ds = record { config = c; world = first_world (rules c) c.capacity (map (source_of c ds) (range_with_len 0 (link_count c))) }

-- ---- as lists in memory

-- the lists of link a and of those after it: what came by each
abbrev pub AreOf : Config → List Datagram → ℕ → List (Vec Came Global) → Type 0
AreOf c ds a [] = Unit {0}
AreOf c ds a (xs ∷ rest) = (map (source_entry a) xs.items ≡ numbered c a 1 ds) × AreNumbered c a 1 xs.items × AreOf c ds (a + 1) rest

-- a list for each link, of what came by it
pub record AreGathered (c : Config) (ds : List Datagram) (lists : List (Vec Came Global)) : Type 0 where
  pub count : length lists ≡ link_count c
  pub lists_are : AreOf c ds 0 lists

-- The pipeline that begins with the lists begins with the datagrams.
abbrev pub GatheredBegin : Type 0
GatheredBegin = (c : Config) (ds : List Datagram) (lists : List (Vec Came Global)) → AreGathered c ds lists → AreArrivals c lists × (begun c lists ≡ starting c ds)
