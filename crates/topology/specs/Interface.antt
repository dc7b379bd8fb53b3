-- An interface of a border router.
use Rattle.std.specs.Prelude.{ℕ, Bool, ◌&&◌, not, List, Option, Some, None, codes, option_map, is_some, if◌then◌else◌}
use Rattle.std.specs.Str.{bytes_eq}
use Rattle.serde_json.specs.Data.{Data}
use Rattle.serde_json.specs.Find.{as_str, get}
use Rattle.process_packet.specs.declared.underlay.Underlay.{Underlay}
use Rattle.segment_switch.specs.declared.kind.LinkKind.{LinkKind}
use Rattle.segment_switch.specs.declared.kind.LinkKind.TheVariants.{Core, Parent, Child}
use Rattle.text_values.specs.Pieces.{number_up_to, unless_zero, ◌>>=◌}
use Rattle.topology.specs.Bfd.{bfd_of}
use Rattle.topology.specs.Entry.{address_at, if_object, isd_as_at, text_at}
use Rattle.topology.specs.LeftOut.{Left, left, peering, provider}
use Rattle.topology.specs.Place.{interface}
use Rattle.topology.specs.PortRange.{is_word}
use Rattle.topology.specs.declared.interface.Carried.{Carried}
use Rattle.topology.specs.declared.interface.Carried.TheVariants.{Link, Not}
use Rattle.topology.specs.declared.interface.Interface.{Interface}
use Rattle.topology.specs.declared.interface.Relation.{Relation}
use Rattle.topology.specs.declared.interface.Relation.TheVariants.{Kind, Peer}

-- What an interface says of its link.
pub record LinkValues : Type 0 where
  pub id : ℕ
  pub kind : LinkKind
  pub local : Underlay
  pub remote : Underlay
  pub neighbor : List ℕ
  pub bfd : Bool

abbrev pub link_values : Interface → LinkValues
link_values l = record { id = l.id; kind = l.kind; local = l.local; remote = l.remote; neighbor = l.neighbor.now; bfd = l.bfd }

-- the number of an interface, from 1 to 65535, as a plain decimal
abbrev pub id_of : List ℕ → Option ℕ
id_of text = number_up_to 65535 text >>= unless_zero

-- what a word says of the AS at the other end, in letters of either case
abbrev pub relation_of : List ℕ → Option Relation
relation_of word = if is_word (codes "core") word then Some (Kind Core)
    else if is_word (codes "parent") word then Some (Kind Parent)
    else if is_word (codes "child") word then Some (Kind Child)
    else if is_word (codes "peer") word then Some Peer
    else None

unfoldable pub relation_at : Data → Option Relation
relation_at d = text_at (codes "link_to") d >>= relation_of

-- the name of an underlay that isn't UDP over IP, if it is another one
abbrev pub unless_udp : List ℕ → Option (List ℕ)
unless_udp name = if bytes_eq name (codes "udpip") then None else Some name

abbrev pub provider_from : Option Data → Option (Option (List ℕ))
provider_from None = Some None
provider_from (Some d) = option_map unless_udp (as_str d)

-- there may be no such key; none outside where the value is no text
unfoldable pub provider_of : Data → Option (Option (List ℕ))
provider_of underlay = provider_from (get (codes "provider") underlay)

-- at `public`, unless its IP address stands at `bind`
unfoldable pub public_of : Data → Option Underlay
public_of underlay = if is_some (get (codes "bind") underlay) then None else address_at (codes "public") underlay

-- where this router's end is: at `local`, or as older files have it
unfoldable pub local_of : Data → Option Underlay
local_of underlay = if not (is_some (get (codes "local") underlay)) && is_some (get (codes "public") underlay)
    then public_of underlay else address_at (codes "local") underlay

-- a link of this kind, over UDP
unfoldable pub link_of : List ℕ → LinkKind → Data → Data → Option LinkValues
link_of id kind d underlay = do
  number ← id_of id
  local ← local_of underlay
  remote ← address_at (codes "remote") underlay
  neighbor ← isd_as_at (codes "isd_as") d
  bfd ← bfd_of d
  Some (record { id = number; kind = kind; local = local; remote = remote; neighbor = neighbor; bfd = bfd })

-- A link, or what is told where it isn't carried over.
pub data CarriedValues : Type 0 where
  link : LinkValues → CarriedValues
  not_carried : Left → CarriedValues

abbrev pub carried_values : Carried → CarriedValues
carried_values (Link l) = link (link_values l)
carried_values (Not reason) = not_carried (left reason)

abbrev pub over_udp : List ℕ → List ℕ → LinkKind → Data → Data → Option (List ℕ) → Option CarriedValues
over_udp router id kind d underlay None = option_map link (link_of id kind d underlay)
over_udp router id kind d underlay (Some name) = Some (not_carried (provider (interface id router) name))

abbrev pub over : List ℕ → List ℕ → LinkKind → Data → Data → Option CarriedValues
over router id kind d underlay = provider_of underlay >>= over_udp router id kind d underlay

unfoldable pub of_kind : List ℕ → List ℕ → LinkKind → Data → Option CarriedValues
of_kind router id kind d = get (codes "underlay") d >>= if_object >>= over router id kind d

abbrev pub carried_by : List ℕ → List ℕ → Data → Relation → Option CarriedValues
carried_by router id d (Kind kind) = of_kind router id kind d
carried_by router id d Peer = Some (not_carried (peering (interface id router)))

-- An interface of a router. Peering links and other underlays aren't carried over.
unfoldable pub interface_of : List ℕ → List ℕ → Data → Option CarriedValues
interface_of router id d = relation_at d >>= carried_by router id d
