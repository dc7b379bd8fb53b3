-- A configuration, part by part.
use Rattle.std.proofs.Common.{◌≡◌, ℕ, List, map, Option, Ok, Err, ℤ, pos, refl, inl, inr}
use Rattle.std.specs.Prelude.{◌⊎◌, ◌≢◌, codes}
use Rattle.toml.specs.Data.{Members, as_integer}
use Rattle.process_packet.specs.Neighbours.{link_id}
use Rattle.process_packet.specs.declared.neighbours.Link.{Link}
use Rattle.process_packet.specs.declared.neighbours.Sibling.{Sibling}
use Rattle.process_packet.specs.declared.neighbours.Service.{Service}
use Rattle.process_packet.specs.declared.port_range.PortRange.{PortRange}
use Rattle.router_config.specs.Config.{AroundValues, InternalValues, LocalValues, SizeValues, Values, around_at, buffers_at, internal_at, local_at, sizes_at, values_at}
use Rattle.router_config.specs.Entry.{in_range, value_at, version_at}
use Rattle.router_config.specs.Neighbours.{link_values, links_at, services_at, siblings_at}
use Rattle.router_config.specs.Ports.{dispatched_ports_at}
use Rattle.router_config.specs.declared.entry.Version.{Version}
use Rattle.router_config.specs.declared.fault.ConfigFault.{ConfigFault}
use Rattle.router_config.specs.declared.fault.ConfigFault.TheVariants.{Memory, Missing}
use Rattle.router_config.proofs.ListLemmas.{kept, told_ids}

-- ---- buffers

pub buffers_there : (t : Members) (z : ℤ) → Ok z ≡ value_at as_integer (codes "buffers") t → in_range 2 65536 z ≡ buffers_at t
unfolding buffers_at
buffers_there t z there = rw (← there) refl

pub usual_buffers : (t : Members) → Err Missing ≡ value_at as_integer (codes "buffers") t → Ok 64 ≡ buffers_at t
unfolding buffers_at
usual_buffers t there = rw (← there) refl

pub bad_buffers : (t : Members) (fault : ConfigFault) → fault ≢ Missing → Err fault ≡ value_at as_integer (codes "buffers") t → Err fault ≡ buffers_at t
unfolding buffers_at
bad_buffers t fault other there = rw (← there, kept (pos 64) fault other) refl

-- ---- what is around

pub bad_links : (version : Version) (own : ℕ × ℕ) (t : Members) (fault : ConfigFault) → (fault ≡ Memory) ⊎ (links_at version own t ≡ Err fault)
    → (fault ≡ Memory) ⊎ (around_at version own t ≡ Err fault)
unfolding around_at
bad_links version own t fault (inl memory) = inl memory
bad_links version own t fault (inr there) = inr (rw there refl)

pub bad_siblings : (version : Version) (own : ℕ × ℕ) (t : Members) (links : List Link) (fault : ConfigFault) → links_at version own t ≡ Ok (map link_values links)
    → (fault ≡ Memory) ⊎ (siblings_at (map link_id links) t ≡ Err fault) → (fault ≡ Memory) ⊎ (around_at version own t ≡ Err fault)
unfolding around_at
bad_siblings version own t links fault first (inl memory) = inl memory
bad_siblings version own t links fault first (inr there) = inr (rw (first, told_ids links, there) refl)

pub bad_services : (version : Version) (own : ℕ × ℕ) (t : Members) (links : List Link) (siblings : List Sibling) (fault : ConfigFault) → links_at version own t ≡ Ok (map link_values links)
    → siblings_at (map link_id links) t ≡ Ok siblings → (fault ≡ Memory) ⊎ (services_at t ≡ Err fault) → (fault ≡ Memory) ⊎ (around_at version own t ≡ Err fault)
unfolding around_at
bad_services version own t links siblings fault first second (inl memory) = inl memory
bad_services version own t links siblings fault first second (inr there) = inr (rw (first, told_ids links, second, there) refl)

pub all_around : (version : Version) (own : ℕ × ℕ) (t : Members) (links : List Link) (siblings : List Sibling) (services : List Service) → links_at version own t ≡ Ok (map link_values links)
    → siblings_at (map link_id links) t ≡ Ok siblings → services_at t ≡ Ok services
    → around_at version own t ≡ Ok (record { links = map link_values links; siblings = siblings; services = services })
unfolding around_at
all_around version own t links siblings services first second third = rw (first, told_ids links, second, third) refl

-- ---- all of it

pub bad_version : (t : Members) (fault : ConfigFault) → Err fault ≡ version_at t → values_at t ≡ Err fault
unfolding values_at
bad_version t fault there = rw (← there) refl

pub bad_local : (t : Members) (version : Version) (fault : ConfigFault) → Ok version ≡ version_at t → Err fault ≡ local_at t → values_at t ≡ Err fault
unfolding values_at
bad_local t version fault first there = rw (← first, ← there) refl

pub bad_internal : (t : Members) (version : Version) (near : LocalValues) (fault : ConfigFault) → Ok version ≡ version_at t → Ok near ≡ local_at t
    → Err fault ≡ internal_at version t → values_at t ≡ Err fault
unfolding values_at
bad_internal t version near fault first second there = rw (← first, ← second, ← there) refl

pub bad_sizes : (t : Members) (version : Version) (near : LocalValues) (internal : InternalValues) (fault : ConfigFault) → Ok version ≡ version_at t → Ok near ≡ local_at t
    → Ok internal ≡ internal_at version t → Err fault ≡ sizes_at t → values_at t ≡ Err fault
unfolding values_at
bad_sizes t version near internal fault first second third there = rw (← first, ← second, ← third, ← there) refl

pub bad_ports : (t : Members) (version : Version) (near : LocalValues) (internal : InternalValues) (sizes : SizeValues) (fault : ConfigFault) → Ok version ≡ version_at t → Ok near ≡ local_at t
    → Ok internal ≡ internal_at version t → Ok sizes ≡ sizes_at t → Err fault ≡ dispatched_ports_at t → values_at t ≡ Err fault
unfolding values_at
bad_ports t version near internal sizes fault first second third fourth there = rw (← first, ← second, ← third, ← fourth, ← there) refl

pub bad_around : (t : Members) (version : Version) (near : LocalValues) (internal : InternalValues) (sizes : SizeValues) (ports : Option PortRange) (fault : ConfigFault) → Ok version ≡ version_at t → Ok near ≡ local_at t
    → Ok internal ≡ internal_at version t → Ok sizes ≡ sizes_at t → Ok ports ≡ dispatched_ports_at t → (fault ≡ Memory) ⊎ (around_at version near.isd_as t ≡ Err fault) → (fault ≡ Memory) ⊎ (values_at t ≡ Err fault)
unfolding values_at
bad_around t version near internal sizes ports fault first second third fourth fifth (inl memory) = inl memory
bad_around t version near internal sizes ports fault first second third fourth fifth (inr there) = inr (rw (← first, ← second, ← third, ← fourth, ← fifth, there) refl)

pub all_there : (t : Members) (version : Version) (near : LocalValues) (internal : InternalValues) (sizes : SizeValues) (ports : Option PortRange) (around : AroundValues) → Ok version ≡ version_at t → Ok near ≡ local_at t
    → Ok internal ≡ internal_at version t → Ok sizes ≡ sizes_at t → Ok ports ≡ dispatched_ports_at t → around_at version near.isd_as t ≡ Ok around
    → values_at t ≡ Ok (record { near = near; internal = internal; sizes = sizes; dispatched_ports = ports; around = around })
unfolding values_at
all_there t version near internal sizes ports around first second third fourth fifth sixth = rw (← first, ← second, ← third, ← fourth, ← fifth, sixth) refl

-- values whose parts are these
pub joined : (v : Values) (near : LocalValues) (internal : InternalValues) (sizes : SizeValues) (ports : Option PortRange) (around : AroundValues)
    → v.near ≡ near → v.internal ≡ internal → v.sizes ≡ sizes → v.dispatched_ports ≡ ports → v.around ≡ around
    → record { near = near; internal = internal; sizes = sizes; dispatched_ports = ports; around = around } ≡ v
joined v near internal sizes ports around a b c d e = rw (← a, ← b, ← c, ← d, ← e) refl
