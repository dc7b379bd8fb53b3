-- The words of what doesn't fit in a net: the names of the files, the keys and their values.
use Rattle.std.specs.Prelude.{ℕ, ◌≤◌, ◌/◌, ◌%◌, ◌==◌, nat_le, Bool, true, false, List, [], ◌∷◌, ◌++◌, Option, Some, None, codes, decimal, find, if◌then◌else◌}
use Rattle.std.specs.Fmt.{digits}
use Rattle.std.specs.List.{slice_get}
use Rattle.scion_header.specs.declared.domain.Domain.{Domain}
use Rattle.segment_switch.specs.declared.kind.LinkKind.{LinkKind}
use Rattle.segment_switch.specs.declared.kind.LinkKind.TheVariants.{Core, Parent, Child}
use Rattle.process_packet.specs.declared.config.Config.{Config}
use Rattle.process_packet.specs.declared.neighbours.Link.{Link}
use Rattle.process_packet.specs.declared.neighbours.Service.{Service}
use Rattle.process_packet.specs.declared.neighbours.Sibling.{Sibling}
use Rattle.process_packet.specs.declared.port_range.PortRange.{PortRange}
use Rattle.process_packet.specs.Network.{network, own_link, service, sibling}
use Rattle.process_packet.specs.Underlay.{same_underlay}
use Rattle.text_values.specs.Shown.{text_of}
use Rattle.net_laws.specs.Agreement.{same_end}
use Rattle.net_laws.specs.Net.{opposite}
use Rattle.net_laws.specs.declared.misfit.Difference.{Difference}
use Rattle.net_laws.specs.declared.misfit.Difference.TheVariants as difference
use Rattle.net_laws.specs.declared.misfit.Misfit.{Misfit}
use Rattle.net_laws.specs.declared.misfit.Misfit.TheVariants as misfit
use Rattle.net_laws.specs.declared.misfit.Mismatch.{Mismatch}
use Rattle.net_laws.specs.declared.misfit.Mismatch.TheVariants as mismatch
use Rattle.net_laws.specs.declared.net.End.{End}
use Rattle.net_laws.specs.declared.net.Wire.{Wire}
use Rattle.net_check.specs.declared.named.IsdAs.{IsdAs}
use Rattle.net_check.specs.declared.named.Named as declared_router
use Rattle.net_check.specs.declared.named.NamedEnd as declared_end
use Rattle.net_check.specs.declared.words.Ends as declared_ends
use Rattle.net_check.specs.declared.words.Pair as declared_pair

-- ---- values

-- an AS number: decimal up to 32 bits, else three groups of hex
abbrev pub as_number_text : ℕ → List ℕ
as_number_text n =
    if nat_le n 4294967295 then decimal n
    else digits 16 false (n / 4294967296) ++ 58 ∷ (digits 16 false (n / 65536 % 65536) ++ 58 ∷ digits 16 false (n % 65536))

unfoldable pub isd_as_text : ℕ → ℕ → List ℕ
isd_as_text isd n = decimal isd ++ 45 ∷ as_number_text n

abbrev pub number_text : IsdAs → List ℕ
number_text n = isd_as_text n.0 n.1

unfoldable pub range_text : PortRange → List ℕ
range_text r = 91 ∷ (decimal r.first ++ (codes ", " ++ (decimal r.last ++ codes "]")))

abbrev pub ports_text : Option PortRange → List ℕ
ports_text None = codes "missing"
ports_text (Some r) = range_text r

abbrev pub kind_text : LinkKind → List ℕ
kind_text Core = codes "\"core\""
kind_text Parent = codes "\"parent\""
kind_text Child = codes "\"child\""

-- ---- routers and links by the names of their files

-- what is told where a place names no file, no link and no value
abbrev pub nothing : List ℕ
nothing = codes "nothing"

-- a router and the name of its file
pub record Router : Type 0 where
  pub name : List ℕ
  pub config : Config

abbrev pub named : declared_router.Named → Router
named n = record { name = n.name.now; config = n.config.now }

abbrev pub name_or : Option (List ℕ) → List ℕ
name_or None = nothing
name_or (Some name) = name

abbrev pub name_at : List (List ℕ) → ℕ → List ℕ
name_at names k = name_or (slice_get names k)

abbrev pub named_as : List ℕ → Option Config → Option Router
named_as name None = None
named_as name (Some c) = Some (record { name = name; config = c })

abbrev pub named_at : List Config → List (List ℕ) → ℕ → Option Router
named_at configs names k = named_as (name_at names k) (slice_get configs k)

abbrev pub as_text : Router → List ℕ
as_text x = isd_as_text x.config.isd x.config.autonomous_system

-- a link and its router
pub record Ended : Type 0 where
  pub router : Router
  pub link : Link

abbrev pub named_end : declared_end.NamedEnd → Ended
named_end e = record { router = named e.router; link = e.link.now }

abbrev pub with_link : Router → Option Link → Option Ended
with_link x None = None
with_link x (Some l) = Some (record { router = x; link = l })

abbrev pub link_of : Option Router → ℕ → Option Ended
link_of None id = None
link_of (Some x) id = with_link x (own_link (network x.config) id)

abbrev pub end_at : List Config → List (List ℕ) → End → Option Ended
end_at configs names e = link_of (named_at configs names e.router) e.link

unfoldable pub end_text : Ended → List ℕ
end_text e = codes "link " ++ (decimal e.link.id ++ (codes " in " ++ e.router.name))

-- ---- two routers of one AS

-- the one is held against the other
pub record Pair : Type 0 where
  pub one : Router
  pub other : Router

abbrev pub pair : declared_pair.Pair → Pair
pair p = record { one = named p.one; other = named p.other }

unfoldable pub moved_text : Pair → Service → Service → List ℕ
moved_text p here there =
    codes "`at` of service " ++ (decimal here.number ++ (codes " is " ++ (text_of here.at ++ (codes " in " ++ (p.one.name
    ++ (codes ", and " ++ (text_of there.at ++ (codes " in " ++ p.other.name))))))))

unfoldable pub only_here_text : Pair → ℕ → List ℕ
only_here_text p number = codes "service " ++ (decimal number ++ (codes " of " ++ (p.one.name ++ (codes " is missing in " ++ p.other.name))))

abbrev pub service_of : Pair → ℕ → Option Service → Option Service → List ℕ
service_of p number None there = only_here_text p number
service_of p number (Some here) None = only_here_text p number
service_of p number (Some here) (Some there) = moved_text p here there

-- a service that the one doesn't have where the other has it
abbrev pub service_text : Pair → ℕ → List ℕ
service_text p number = service_of p number (service (network p.one.config) number) (service (network p.other.config) number)

unfoldable pub unlisted_text : Pair → ℕ → List ℕ
unlisted_text p number = codes "link " ++ (decimal number ++ (codes " of " ++ (p.other.name ++ (codes " is missing among the siblings of " ++ p.one.name))))

unfoldable pub elsewhere_text : Pair → Sibling → List ℕ
elsewhere_text p entry =
    codes "`at` of sibling " ++ (decimal entry.id ++ (codes " in " ++ (p.one.name ++ (codes " is " ++ (text_of entry.at
    ++ (codes ", and `internal` of " ++ (p.other.name ++ (codes ", which has that link, is " ++ text_of p.other.config.internal))))))))

unfoldable pub other_kind_text : Pair → Sibling → Link → List ℕ
other_kind_text p entry l =
    codes "`kind` of sibling " ++ (decimal entry.id ++ (codes " in " ++ (p.one.name ++ (codes " is " ++ (kind_text entry.kind
    ++ (codes ", and that of link " ++ (decimal l.id ++ (codes " in " ++ (p.other.name ++ (codes " is " ++ kind_text l.kind))))))))))

abbrev pub listing_of : Pair → ℕ → Option Sibling → Option Link → List ℕ
listing_of p number None link = unlisted_text p number
listing_of p number (Some entry) None = unlisted_text p number
listing_of p number (Some entry) (Some link) =
    if same_underlay entry.at p.other.config.internal then other_kind_text p entry link else elsewhere_text p entry

-- a link of the other that the one doesn't list as it is
abbrev pub listing_text : Pair → ℕ → List ℕ
listing_text p number = listing_of p number (sibling (network p.one.config) number) (own_link (network p.other.config) number)

unfoldable pub key_text : Pair → List ℕ
key_text p = codes "`key` of " ++ (p.one.name ++ (codes " is not that of " ++ p.other.name))

unfoldable pub host_port_text : Pair → List ℕ
host_port_text p =
    codes "`host_port` is " ++ (decimal p.one.config.host_port ++ (codes " in " ++ (p.one.name
    ++ (codes ", and " ++ (decimal p.other.config.host_port ++ (codes " in " ++ p.other.name))))))

unfoldable pub ports_differ_text : Pair → List ℕ
ports_differ_text p =
    codes "`dispatched_ports` is " ++ (ports_text p.one.config.dispatched_ports ++ (codes " in " ++ (p.one.name
    ++ (codes ", and " ++ (ports_text p.other.config.dispatched_ports ++ (codes " in " ++ p.other.name))))))

unfoldable pub internal_text : Pair → List ℕ
internal_text p = codes "`internal` is " ++ (text_of p.one.config.internal ++ (codes " in " ++ (p.one.name ++ (codes " and in " ++ p.other.name))))

unfoldable pub same_link_text : Pair → ℕ → List ℕ
same_link_text p number = codes "link " ++ (decimal number ++ (codes " is in " ++ (p.one.name ++ (codes " and in " ++ p.other.name))))

abbrev pub difference_text : Pair → Difference → List ℕ
difference_text p difference.Key = key_text p
difference_text p difference.HostPort = host_port_text p
difference_text p difference.DispatchedPorts = ports_differ_text p
difference_text p (difference.Service number) = service_text p number
difference_text p difference.Internal = internal_text p
difference_text p (difference.SameInterface number) = same_link_text p number
difference_text p (difference.Unlisted number) = listing_text p number
difference_text p (difference.Elsewhere number) = listing_text p number
difference_text p (difference.OtherKind number) = listing_text p number

unfoldable pub routers_text : Pair → Difference → List ℕ
routers_text p what = difference_text p what ++ (codes "; both are of " ++ as_text p.one)

-- ---- a wire

-- the ends of a wire
pub record Ends : Type 0 where
  pub one : Ended
  pub other : Ended

abbrev pub ends : declared_ends.Ends → Ends
ends e = record { one = named_end e.one; other = named_end e.other }

abbrev pub flipped : Ends → Ends
flipped e = record { one = e.other; other = e.one }

unfoldable pub same_end_text : Ends → List ℕ
same_end_text e = codes "`remote` of " ++ (end_text e.one ++ (codes " is " ++ (text_of e.one.link.remote ++ codes ", its own `local`")))

unfoldable pub remote_text : Ends → List ℕ
remote_text e =
    codes "`remote` of " ++ (end_text e.one ++ (codes " is " ++ (text_of e.one.link.remote ++ (codes "; wanted: " ++ (text_of e.other.link.local
    ++ (codes ", the `local` of " ++ (end_text e.other ++ codes ", whose `remote` is that link's `local`")))))))

unfoldable pub kinds_text : Ends → List ℕ
kinds_text e =
    codes "`kind` of " ++ (end_text e.one ++ (codes " is " ++ (kind_text e.one.link.kind ++ (codes ", and that of its other end, " ++ (end_text e.other
    ++ (codes ", is " ++ (kind_text e.other.link.kind ++ (codes "; wanted there: " ++ kind_text (opposite e.one.link.kind)))))))))

unfoldable pub named_as_text : Ends → Domain → List ℕ
named_as_text e d =
    codes "`neighbor` of " ++ (end_text e.one ++ (codes " is " ++ (isd_as_text d.isd d.autonomous_system
    ++ (codes ", and its other end, " ++ (end_text e.other ++ (codes ", is of " ++ as_text e.other.router))))))

abbrev pub neighbor_of : Ends → Option Domain → List ℕ
neighbor_of e None = nothing
neighbor_of e (Some d) = named_as_text e d

abbrev pub neighbor_text : Ends → List ℕ
neighbor_text e = neighbor_of e e.one.link.neighbor

abbrev pub mismatch_text : Ends → Mismatch → List ℕ
mismatch_text e mismatch.NoLink = nothing
mismatch_text e mismatch.SameEnd = same_end_text e
mismatch_text e mismatch.Remote = remote_text e
mismatch_text e mismatch.RemoteBack = remote_text (flipped e)
mismatch_text e mismatch.Kinds = kinds_text e
mismatch_text e mismatch.Neighbor = neighbor_text e
mismatch_text e mismatch.NeighborBack = neighbor_text (flipped e)

-- ---- two wires with an end in common

-- the end in common, and the other ones
pub record CommonEnd : Type 0 where
  pub at : End
  pub one : End
  pub other : End

abbrev pub common : End → End → End → CommonEnd
common at one other = record { at = at; one = one; other = other }

abbrev pub common_end : Wire → Wire → CommonEnd
common_end v w =
    if same_end v.one w.one then common v.one v.other w.other
    else if same_end v.one w.other then common v.one v.other w.one
    else if same_end v.other w.one then common v.other v.one w.other
    else common v.other v.one w.one

unfoldable pub shared_text : Ended → Ends → List ℕ
shared_text at e =
    codes "`local` is " ++ (text_of e.one.link.local ++ (codes " of " ++ (end_text e.one ++ (codes " and of " ++ (end_text e.other
    ++ (codes ": " ++ (end_text at ++ codes " has two other ends")))))))

-- ---- all of it

abbrev pub of_routers : Option Router → Option Router → Difference → List ℕ
of_routers None other what = nothing
of_routers (Some one) None what = nothing
of_routers (Some one) (Some other) what = routers_text (record { one = one; other = other }) what

abbrev pub of_wire : Option Ended → Option Ended → Mismatch → List ℕ
of_wire None other what = nothing
of_wire (Some one) None what = nothing
of_wire (Some one) (Some other) what = mismatch_text (record { one = one; other = other }) what

abbrev pub of_ends : Option Ended → Option Ended → Option Ended → List ℕ
of_ends None one other = nothing
of_ends (Some at) None other = nothing
of_ends (Some at) (Some one) None = nothing
of_ends (Some at) (Some one) (Some other) = shared_text at (record { one = one; other = other })

abbrev pub of_shared : List Config → List (List ℕ) → CommonEnd → List ℕ
of_shared configs names s = of_ends (end_at configs names s.at) (end_at configs names s.one) (end_at configs names s.other)

-- what is told of a misfit, by the names of the files of these configurations
abbrev pub words_of : List Config → List (List ℕ) → Misfit → List ℕ
words_of configs names (misfit.Routers one other what) = of_routers (named_at configs names one) (named_at configs names other) what
words_of configs names (misfit.Wire wire what) = of_wire (end_at configs names wire.one) (end_at configs names wire.other) what
words_of configs names (misfit.Shared one other) = of_shared configs names (common_end one other)

-- what is told of a link whose other end is in none of the files
unfoldable pub open_text : List ℕ → Link → List ℕ
open_text name l = codes "link " ++ (decimal l.id ++ (codes " in " ++ (name ++ (codes " leads to " ++ (text_of l.remote ++ codes ", which is in none of these files")))))
