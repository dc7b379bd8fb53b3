-- What arrives on the links, as the pipeline's laws know it.
use Rattle.std.specs.Prelude.{◌+◌, ℕ, List, [], ◌∷◌, map}
use Rattle.std.specs.declared.alloc.Global.{Global}
use Rattle.std.specs.declared.vec.Vec.{Vec}
use Rattle.order_laws.specs.Item.{Arrival, Arrived}
use Rattle.replay_laws.specs.Pipe.{Entry, Pipe}
use Rattle.replay_laws.specs.Worker.{Receiver}
use Rattle.process_packet.specs.declared.arrival.Arrival.{Arrival as Came}
use Rattle.router_rules.specs.Datagram.{Datagram}
use Rattle.router_rules.specs.Rules.{kinds}

abbrev pub datagram_of : Came → Datagram
datagram_of x = record { interface = x.link; source = x.source; moment = x.now; bytes = x.bytes.items }

-- on link a
abbrev pub arrived_in : ℕ → Came → Arrival kinds
arrived_in a x = record { link = a; number = x.number; datagram = datagram_of x }

abbrev pub source_entry : ℕ → Came → Entry kinds
source_entry a x = record { from = Receiver a; item = Arrived (arrived_in a x) }

-- what arrives on link a, none of it received
abbrev pub source : ℕ → List Came → Pipe kinds
source a xs = record { history = map (source_entry a) xs; taken = 0; capacity = 0; refusals = [] }

abbrev pub sources_from : ℕ → List (Vec Came Global) → List (Pipe kinds)
sources_from a [] = []
sources_from a (xs ∷ rest) = source a xs.items ∷ sources_from (a + 1) rest
