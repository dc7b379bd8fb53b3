-- Two routers of one AS, and the ports at which applications on its end hosts listen themselves: the routers agree where each
-- knows the same of them.
use Rattle.std.specs.Prelude.{ℕ, [], ◌∷◌, Option, Some, None}
use Rattle.process_packet.specs.declared.port_range.PortRange.{PortRange}
use Rattle.net_laws.specs.ExampleTurn.{parent, second_parent}
use Rattle.net_laws.specs.Net.{Agrees, Net, Router}

abbrev pub ports : ℕ → ℕ → Option PortRange
ports first last = Some (record { first = first; last = last })

abbrev pub with_ports : Router → Option PortRange → Router
with_ports x known = record x { network = record x.network { dispatched_ports = known } }

-- what the one of them knows, and the other
abbrev pub twins : Option PortRange → Option PortRange → Net
twins one other = record { routers = with_ports parent one ∷ with_ports second_parent other ∷ []; wires = [] }

-- The same range, or none in both; each end of it counts, and no range is not any range.
pub record PortsAgree : Type 0 where
  pub same : Agrees (twins (ports 1024 65535) (ports 1024 65535))
  pub without : Agrees (twins None None)
  pub another_first : Agrees (twins (ports 1024 65535) (ports 1025 65535)) → ⊥
  pub another_last : Agrees (twins (ports 1024 65535) (ports 1024 65534)) → ⊥
  pub one_without : Agrees (twins None (ports 1024 65535)) → ⊥
  pub other_without : Agrees (twins (ports 1024 65535) None) → ⊥
