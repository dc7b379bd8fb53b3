-- The border routers of an AS: the links of the one that is named, and the interfaces of the others.
use Rattle.std.specs.Prelude.{ℕ, List, [], ◌∷◌, ◌++◌, Option, Some, None, codes, option_map, if◌then◌else◌}
use Rattle.std.specs.Str.{bytes_eq}
use Rattle.serde_json.specs.Data.{Data, Members, no_members}
use Rattle.serde_json.specs.Find.{get}
use Rattle.process_packet.specs.declared.neighbours.Sibling.{Sibling}
use Rattle.process_packet.specs.declared.underlay.Underlay.{Underlay}
use Rattle.text_values.specs.Pieces.{◌>>=◌}
use Rattle.topology.specs.Entry.{address_at, object_if_there}
use Rattle.topology.specs.Interface.{CarriedValues, LinkValues, id_of, interface_of, link, not_carried, relation_at}
use Rattle.topology.specs.LeftOut.{Left, peering, timer}
use Rattle.topology.specs.Outcome.{each, gather}
use Rattle.topology.specs.Place.{NamedPlace, bfd, interface}
use Rattle.topology.specs.declared.interface.Relation.{Relation}
use Rattle.topology.specs.declared.interface.Relation.TheVariants.{Kind, Peer}

-- ---- the router that is named

abbrev pub link_in : CarriedValues → List LinkValues
link_in (link l) = l ∷ []
link_in (not_carried reason) = []

-- an interface's link, if it is carried over
unfoldable pub links_at : List ℕ → List ℕ → Data → Option (List LinkValues)
links_at router id d = option_map link_in (interface_of router id d)

-- the links of these interfaces of a router
abbrev pub links_in : List ℕ → Members → Option (List LinkValues)
links_in router ms = gather (links_at router) ms

-- what is left out of an object of BFD's keys: a timer that is told
abbrev pub timer_from : NamedPlace → List ℕ → Option Data → List Left
timer_from place key None = []
timer_from place key (Some d) = timer place key ∷ []

unfoldable pub timer_in : NamedPlace → Data → List ℕ → List Left
timer_in place d key = timer_from place key (get key d)

abbrev pub timers_in : NamedPlace → Option Data → List Left
timers_in place None = []
timers_in place (Some d) = timer_in place d (codes "detect_mult")
    ++ timer_in place d (codes "desired_min_tx_interval")
    ++ timer_in place d (codes "required_min_rx_interval")

unfoldable pub timers_of : List ℕ → List ℕ → Data → List Left
timers_of router id d = timers_in (bfd id router) (get (codes "bfd") d)

abbrev pub left_by : List ℕ → List ℕ → Data → Option CarriedValues → List Left
left_by router id d (Some (link l)) = timers_of router id d
left_by router id d (Some (not_carried reason)) = reason ∷ []
left_by router id d None = []

unfoldable pub left_at : List ℕ → List ℕ → Data → List Left
left_at router id d = left_by router id d (interface_of router id d)

-- what isn't carried over of these interfaces of a router
abbrev pub left_in : List ℕ → Members → List Left
left_in router ms = each (left_at router) ms

-- ---- the others

abbrev pub sibling_by : Underlay → ℕ → Relation → Option Sibling
sibling_by at id (Kind kind) = Some (record { id = id; kind = kind; at = at })
sibling_by at id Peer = None

-- an interface of a router with this address; none inside where its link is a peering link
unfoldable pub sibling_of : Underlay → List ℕ → Data → Option (Option Sibling)
sibling_of at id d = do
  number ← id_of id
  relation ← relation_at d
  Some (sibling_by at number relation)

abbrev pub sibling_in : Option Sibling → List Sibling
sibling_in (Some sibling) = sibling ∷ []
sibling_in None = []

unfoldable pub siblings_by : Underlay → List ℕ → Data → Option (List Sibling)
siblings_by at id d = option_map sibling_in (sibling_of at id d)

abbrev pub siblings_in : Underlay → Members → Option (List Sibling)
siblings_in at ms = gather (siblings_by at) ms

abbrev pub peer_by : List ℕ → List ℕ → Option Relation → List Left
peer_by router id (Some Peer) = peering (interface id router) ∷ []
peer_by router id (Some (Kind kind)) = []
peer_by router id None = []

unfoldable pub peer_at : List ℕ → List ℕ → Data → List Left
peer_at router id d = peer_by router id (relation_at d)

-- the peering links of these interfaces of a router
abbrev pub peers_in : List ℕ → Members → List Left
peers_in router ms = each (peer_at router) ms

-- a router may have no interfaces
abbrev pub or_none : Option Members → Members
or_none (Some ms) = ms
or_none None = no_members

unfoldable pub siblings_at : Data → Option (List Sibling)
siblings_at d = do
  at ← address_at (codes "internal_addr") d
  ms ← object_if_there (codes "interfaces") d
  siblings_in at (or_none ms)

abbrev pub members_of : Option (Option Members) → Members
members_of (Some ms) = or_none ms
members_of None = no_members

unfoldable pub peers_at : List ℕ → Data → List Left
peers_at router d = peers_in router (members_of (object_if_there (codes "interfaces") d))

unfoldable pub siblings_unless : List ℕ → List ℕ → Data → Option (List Sibling)
siblings_unless own router d = if bytes_eq router own then Some [] else siblings_at d

unfoldable pub peers_unless : List ℕ → List ℕ → Data → List Left
peers_unless own router d = if bytes_eq router own then [] else peers_at router d

-- the interfaces of all routers but this one
abbrev pub siblings_beside : List ℕ → Members → Option (List Sibling)
siblings_beside own ms = gather (siblings_unless own) ms

abbrev pub peers_beside : List ℕ → Members → List Left
peers_beside own ms = each (peers_unless own) ms
