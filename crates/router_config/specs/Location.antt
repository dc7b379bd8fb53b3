-- At which key the first fault of a part of a configuration stands.
use Rattle.std.specs.Prelude.{ℕ, Bool, if◌then◌else◌, List, [], ◌∷◌, Option, Some, None, codes, is_err, map, option_map}
use Rattle.toml.specs.Data.{Data, Members, as_table}
use Rattle.process_packet.specs.Neighbours.{service_number}
use Rattle.process_packet.specs.declared.neighbours.Link.{Link}
use Rattle.process_packet.specs.declared.neighbours.Sibling.{Sibling}
use Rattle.process_packet.specs.declared.neighbours.Service.{Service}
use Rattle.router_config.specs.Config.{buffers_at, key_at}
use Rattle.router_config.specs.Entry.{address_at, bands_at, isd_as_at, kind_at, number_at}
use Rattle.router_config.specs.Fault.{◌>>=◌}
use Rattle.router_config.specs.Neighbours.{bfd_at, id_at, neighbor_at, number_at as service_number_at, taken}
use Rattle.router_config.specs.declared.entry.Version.{Version}
use Rattle.router_config.specs.declared.location.Key.{Key}
use Rattle.router_config.specs.declared.location.Key.TheVariants as key
use Rattle.router_config.specs.declared.location.Location.{Location}
use Rattle.router_config.specs.declared.location.Location.TheVariants.{Member, MemberValue}

-- the first of these keys whose value is refused
abbrev pub first_refused : List (Key × Bool) → Option Key
first_refused [] = None
first_refused (x ∷ rest) = if x.1 then Some x.0 else first_refused rest

abbrev pub key_of_local : Members → Option Key
key_of_local t = first_refused ((key.IsdAs, is_err (isd_as_at (codes "isd_as") t)) ∷ (key.Forwarding, is_err (key_at t)) ∷ [])

abbrev pub key_of_internal : Version → Members → Option Key
key_of_internal v t =
    first_refused
    ((key.Internal, is_err (address_at (codes "internal") t))
    ∷ (key.InternalBands, is_err (bands_at v (codes "internal_bands") t))
    ∷ (key.HostPort, is_err (number_at 1 65535 (codes "host_port") t))
    ∷ [])

abbrev pub key_of_sizes : Members → Option Key
key_of_sizes t =
    first_refused
    ((key.Processors, is_err (number_at 1 16 (codes "processors") t))
    ∷ (key.Capacity, is_err (number_at 1 65536 (codes "capacity") t))
    ∷ (key.Seed, is_err (number_at 0 4294967295 (codes "seed") t))
    ∷ (key.Buffers, is_err (buffers_at t))
    ∷ [])

-- the member itself where it is no table
abbrev pub in_member : Key → ℕ → (Members → Option Key) → Option Members → Option Location
in_member list number read None = Some (Member list number)
in_member list number read (Some t) = option_map (λ k. MemberValue list number k) (read t)

abbrev pub key_of_link : Version → ℕ × ℕ → List Link → Members → Option Key
key_of_link v own given t =
    first_refused
    ((key.Id, is_err (id_at (taken given []) t))
    ∷ (key.Kind, is_err (kind_at t))
    ∷ (key.Local, is_err (address_at (codes "local") t))
    ∷ (key.Remote, is_err (address_at (codes "remote") t))
    ∷ (key.Bands, is_err (bands_at v (codes "bands") t))
    ∷ (key.Neighbor, is_err (neighbor_at own t))
    ∷ (key.Bfd, is_err (neighbor_at own t >>= (λ neighbor. bfd_at neighbor t)))
    ∷ [])

abbrev pub key_of_sibling : List Link → List Sibling → Members → Option Key
key_of_sibling links given t =
    first_refused
    ((key.Id, is_err (id_at (taken links given) t)) ∷ (key.Kind, is_err (kind_at t)) ∷ (key.At, is_err (address_at (codes "at") t)) ∷ [])

abbrev pub key_of_service : List Service → Members → Option Key
key_of_service given t = first_refused ((key.Number, is_err (service_number_at (map service_number given) t)) ∷ (key.At, is_err (address_at (codes "at") t)) ∷ [])

-- where the first fault of a member stands, which has this number in its list
abbrev pub location_of_link : Version → ℕ × ℕ → List Link → ℕ → Data → Option Location
location_of_link v own given number member = in_member key.Link number (key_of_link v own given) (as_table member)

abbrev pub location_of_sibling : List Link → List Sibling → ℕ → Data → Option Location
location_of_sibling links given number member = in_member key.Sibling number (key_of_sibling links given) (as_table member)

abbrev pub location_of_service : List Service → ℕ → Data → Option Location
location_of_service given number member = in_member key.Service number (key_of_service given) (as_table member)
