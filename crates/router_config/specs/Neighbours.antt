-- The lists of a configuration: links, siblings' interfaces and services, one member after the other.
use Rattle.std.specs.Prelude.{ℕ, suc, ℤ, pos, negsuc, Bool, true, false, ◌==◌, ◌&&◌, nat_lt, if◌then◌else◌, List, [], ◌∷◌, ◌++◌, map, Option, Some, None, option_map, Result, Ok, Err, codes}
use Rattle.std.specs.List.{list_any}
use Rattle.toml.specs.Data.{Data, Items, no_items, item, Members, as_array, as_bool, as_integer, as_table}
use Rattle.process_packet.specs.Neighbours.{link_id, service_number, sibling_id}
use Rattle.process_packet.specs.declared.neighbours.Bands.{Bands}
use Rattle.process_packet.specs.declared.neighbours.Link.{Link}
use Rattle.process_packet.specs.declared.neighbours.Sibling.{Sibling}
use Rattle.process_packet.specs.declared.neighbours.Service.{Service}
use Rattle.process_packet.specs.declared.underlay.Underlay.{Underlay}
use Rattle.scion_header.specs.declared.domain.Domain.{Domain}
use Rattle.segment_switch.specs.declared.kind.LinkKind.{LinkKind}
use Rattle.router_config.specs.Entry.{address_at, bands_at, isd_as_at, kind_at, value_at}
use Rattle.router_config.specs.Fault.{or_fault, or_when_missing, ◌>>=◌}
use Rattle.router_config.specs.declared.entry.Version.{Version}
use Rattle.router_config.specs.declared.fault.ConfigFault.{ConfigFault}
use Rattle.router_config.specs.declared.fault.ConfigFault.TheVariants.{Missing, WrongType, Interface, Limit}

-- ---- numbers

-- the numbers of links, and those of siblings' interfaces
abbrev pub with_siblings : List ℕ → List Sibling → List ℕ
with_siblings ids siblings = ids ++ map sibling_id siblings

-- the numbers of interfaces that have been given
abbrev pub taken : List Link → List Sibling → List ℕ
taken links siblings = with_siblings (map link_id links) siblings

-- the number of an interface, where these have been given, which are in range
abbrev pub id_of : List ℕ → ℤ → Result ℕ ConfigFault
id_of given (negsuc n) = Err Limit
id_of given (pos n) = if n == 0 then Err Interface
    else if nat_lt 65535 n then Err Limit
    else if list_any (λ other. other == n) given then Err Interface
    else Ok n

abbrev pub id_at : List ℕ → Members → Result ℕ ConfigFault
id_at given table = value_at as_integer (codes "id") table >>= id_of given

-- the number of a service, where these have been given, which are in range
abbrev pub service_of_number : List ℕ → ℤ → Result ℕ ConfigFault
service_of_number given (negsuc n) = Err Limit
service_of_number given (pos n) = if nat_lt 32767 n then Err Limit
    else if list_any (λ other. other == n) given then Err Interface
    else Ok n

abbrev pub number_at : List ℕ → Members → Result ℕ ConfigFault
number_at given table = value_at as_integer (codes "number") table >>= service_of_number given

-- ---- neighbours

-- the numbers of an AS, which is not this one
abbrev pub other_as : ℕ × ℕ → ℕ × ℕ → Result (Option (ℕ × ℕ)) ConfigFault
other_as own found = if found.0 == own.0 && found.1 == own.1 then Err Interface else Ok (Some found)

-- the AS at a link's other end; there may be no such key
unfoldable pub neighbor_at : ℕ × ℕ → Members → Result (Option (ℕ × ℕ)) ConfigFault
neighbor_at own table = or_when_missing None (isd_as_at (codes "neighbor") table >>= other_as own)

abbrev pub domain_numbers : Domain → ℕ × ℕ
domain_numbers d = (d.isd, d.autonomous_system)

-- BFD is answered on a link whose other end is named, and on no other
abbrev pub bfd_of : Option (ℕ × ℕ) → Bool → Result Bool ConfigFault
bfd_of named false = Ok false
bfd_of None true = Err Missing
bfd_of (Some neighbor) true = Ok true

-- whether BFD is answered on a link with this AS at its other end; there may be no such key
unfoldable pub bfd_at : Option (ℕ × ℕ) → Members → Result Bool ConfigFault
bfd_at neighbor table = or_when_missing false (value_at as_bool (codes "bfd") table) >>= bfd_of neighbor

-- ---- members

-- what is told of a link
pub record LinkValues : Type 0 where
  pub id : ℕ
  pub kind : LinkKind
  pub local : Underlay
  pub remote : Underlay
  pub bands : Bands
  pub neighbor : Option (ℕ × ℕ)
  pub bfd : Bool

abbrev pub told_id : LinkValues → ℕ
told_id l = l.id

-- the values that a link has
abbrev pub link_values : Link → LinkValues
link_values l = record { id = l.id; kind = l.kind; local = l.local; remote = l.remote; bands = l.bands; neighbor = option_map domain_numbers l.neighbor; bfd = l.bfd }

-- a link of this AS, where these numbers have been given to others
unfoldable pub link_of : Version → ℕ × ℕ → List ℕ → Data → Result LinkValues ConfigFault
link_of version own ids member = do
  table ← or_fault WrongType (as_table member)
  id ← id_at (with_siblings ids []) table
  kind ← kind_at table
  near ← address_at (codes "local") table
  remote ← address_at (codes "remote") table
  bands ← bands_at version (codes "bands") table
  neighbor ← neighbor_at own table
  bfd ← bfd_at neighbor table
  Ok (record { id = id; kind = kind; local = near; remote = remote; bands = bands; neighbor = neighbor; bfd = bfd })

-- a link beside those that have been read
abbrev pub link_after : Version → ℕ × ℕ → List LinkValues → Data → Result LinkValues ConfigFault
link_after version own given = link_of version own (map told_id given)

-- a sibling's interface, where the links have these numbers
unfoldable pub sibling_of : List ℕ → List Sibling → Data → Result Sibling ConfigFault
sibling_of ids given member = do
  table ← or_fault WrongType (as_table member)
  id ← id_at (with_siblings ids given) table
  kind ← kind_at table
  at ← address_at (codes "at") table
  Ok (record { id = id; kind = kind; at = at })

unfoldable pub service_of : List Service → Data → Result Service ConfigFault
service_of given member = do
  table ← or_fault WrongType (as_table member)
  number ← number_at (map service_number given) table
  at ← address_at (codes "at") table
  Ok (record { number = number; at = at })

-- ---- lists

-- what has been read, and what the members that follow give
unfoldable pub members_from : {A : Type 0} → (List A → Data → Result A ConfigFault) → List A → Items → Result (List A) ConfigFault
members_from read given no_items = Ok given
members_from read given (item member members) = read given member >>= (λ x. members_from read (given ++ x ∷ []) members)

abbrev pub count_of : Items → ℕ
count_of no_items = 0
count_of (item member members) = suc (count_of members)

-- at most `most` members
unfoldable pub at_most : {A : Type 0} → ℕ → (List A → Data → Result A ConfigFault) → Items → Result (List A) ConfigFault
at_most most read members = if nat_lt most (count_of members) then Err Limit else members_from read [] members

-- one to 32 links
unfoldable pub links_of : Version → ℕ × ℕ → Items → Result (List LinkValues) ConfigFault
links_of version own members = if count_of members == 0 then Err Limit else at_most 32 (link_after version own) members

unfoldable pub links_at : Version → ℕ × ℕ → Members → Result (List LinkValues) ConfigFault
links_at version own table = value_at as_array (codes "link") table >>= links_of version own

-- at most 256 siblings' interfaces; there may be no such key
unfoldable pub siblings_at : List ℕ → Members → Result (List Sibling) ConfigFault
siblings_at ids table = or_when_missing no_items (value_at as_array (codes "sibling") table) >>= at_most 256 (sibling_of ids)

-- at most 64 services; there may be no such key
unfoldable pub services_at : Members → Result (List Service) ConfigFault
services_at table = or_when_missing no_items (value_at as_array (codes "service") table) >>= at_most 64 service_of
