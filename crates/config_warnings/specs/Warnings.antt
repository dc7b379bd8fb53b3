-- Which warnings a configuration has.
use Rattle.std.specs.List.{slice_get}
use Rattle.std.specs.Prelude.{ℕ, zero, suc, Bool, true, false, not, ◌||◌, List, [], ◌∷◌, ◌++◌, Option, Some, None, find, is_none, is_some, length, nat_lt, take}
use Rattle.process_packet.specs.Underlay.{same_underlay}
use Rattle.process_packet.specs.declared.config.Config.{Config}
use Rattle.process_packet.specs.declared.neighbours.Link.{Link}
use Rattle.process_packet.specs.declared.neighbours.Sibling.{Sibling}
use Rattle.process_packet.specs.declared.underlay.Underlay.{Underlay}
use Rattle.address_kinds.specs.Reach.{is_host_for}
use Rattle.config_warnings.specs.Addresses.{is_one_version, is_unspecified}
use Rattle.config_warnings.specs.declared.warning.Warning.{Warning}
use Rattle.config_warnings.specs.declared.warning.Warning.TheVariants as warning

abbrev pub when : Bool → Warning → List Warning
when true w = w ∷ []
when false w = []

-- the internal address is unspecified, a link has fewer buffers than a queue holds, and more processors than cores
unfoldable pub of_sizes : Config → ℕ → List Warning
of_sizes c cores =
    when (is_unspecified c.internal.ip) (warning.InternalUnspecified c.internal)
    ++ (when (nat_lt c.buffers c.capacity) (warning.FewBuffers c.buffers c.capacity)
    ++ when (nat_lt cores c.processors) (warning.ManyProcessors c.processors cores))

-- the first of these links with this own address
abbrev pub twin_of : List Link → Underlay → Option Link
twin_of links local = find (λ other. same_underlay other.local local) links

abbrev pub of_twin : Option Link → Link → List Warning
of_twin None own = []
of_twin (Some other) own = warning.SameLocal own.id other.id own.local ∷ []

-- both ends are one address, they are of two IP versions, or no host can have the other end's
unfoldable pub of_ends : Link → List Warning
of_ends own =
    when (same_underlay own.remote own.local) (warning.RemoteIsLocal own.id own.remote)
    ++ (when (not (is_one_version own.local.ip own.remote.ip)) (warning.OtherVersion own.id own.local own.remote)
    ++ when (not (is_host_for own.local.ip own.remote.ip)) (warning.NoHost own.id own.remote))

-- no beacons cross a link whose other end isn't named
abbrev pub of_neighbor : Link → List Warning
of_neighbor own = when (is_none own.neighbor) (warning.NoNeighbor own.id)

-- its own address is the internal one, or that of a link before it
abbrev pub of_own : Underlay → List Link → Link → List Warning
of_own internal before own =
    when (same_underlay own.local internal) (warning.LocalIsInternal own.id own.local) ++ (of_twin (twin_of before own.local) own ++ (of_ends own ++ of_neighbor own))

abbrev pub of_at : Underlay → List Link → Option Link → List Warning
of_at internal before None = []
of_at internal before (Some own) = of_own internal before own

-- of the link at a place of the list
abbrev pub of_link : Config → ℕ → List Warning
of_link c index = of_at c.internal (take index c.links.items) (slice_get c.links.items index)

-- of so many links, the first ones
abbrev pub of_links : Config → ℕ → List Warning
of_links c zero = []
of_links c (suc n) = of_links c n ++ of_link c n

abbrev pub is_own : Config → Underlay → Bool
is_own c at = same_underlay at c.internal || is_some (twin_of c.links.items at)

abbrev pub of_one : Config → Option Sibling → List Warning
of_one c None = []
of_one c (Some s) = when (is_own c s.at) (warning.OwnSibling s.id s.at)

abbrev pub of_sibling : Config → ℕ → List Warning
of_sibling c index = of_one c (slice_get c.siblings.items index)

abbrev pub of_siblings : Config → ℕ → List Warning
of_siblings c zero = []
of_siblings c (suc n) = of_siblings c n ++ of_sibling c n

abbrev pub warnings_of : Config → ℕ → List Warning
warnings_of c cores = of_sizes c cores ++ (of_links c (length c.links.items) ++ of_siblings c (length c.siblings.items))
