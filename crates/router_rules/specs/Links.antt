-- The links of a router, numbered from 0 in ascending order of their interfaces. The internal network is interface 0.
use Rattle.std.specs.Prelude.{ℕ, Bool, ◌&&◌, ◌||◌, ◌==◌, nat_lt, List, ◌∷◌, map, length, find, Option, Some, None, if◌then◌else◌}
use Rattle.std.specs.List.{list_any}
use Rattle.order_laws.specs.Counts.{count}
use Rattle.process_packet.specs.Neighbours.{are_two, link_id}
use Rattle.process_packet.specs.Network.{has_link, network}
use Rattle.process_packet.specs.declared.config.Config.{Config}

abbrev pub interfaces : Config → List ℕ
interfaces c = 0 ∷ map link_id c.links.items

abbrev pub link_count : Config → ℕ
link_count c = length (interfaces c)

-- how many of the interfaces are smaller
abbrev pub rank : Config → ℕ → ℕ
rank c id = count (λ k. nat_lt k id) (interfaces c)

-- the number of the link that has the interface; one that no link has where none has it
abbrev pub link_index : Config → ℕ → ℕ
link_index c id = if has_link (network c) id then rank c id else link_count c

abbrev pub or_zero : Option ℕ → ℕ
or_zero None = 0
or_zero (Some id) = id

-- the interface of the link with a number
abbrev pub interface_at : Config → ℕ → ℕ
interface_at c l = or_zero (find (λ id. rank c id == l) (interfaces c))

abbrev pub has_two_bands : Config → ℕ → Bool
has_two_bands c l = (l == 0 && are_two c.internal_bands) || list_any (λ k. rank c k.id == l && are_two k.bands) c.links.items
