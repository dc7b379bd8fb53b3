-- The servers of an AS: its control service and its discovery service.
use Rattle.std.specs.Prelude.{ℕ, List, [], ◌∷◌, ◌++◌, Option, Some, codes, option_map}
use Rattle.serde_json.specs.Data.{Data, Members, no_members, member}
use Rattle.process_packet.specs.declared.neighbours.Service.{Service}
use Rattle.process_packet.specs.declared.underlay.Underlay.{Underlay}
use Rattle.text_values.specs.Pieces.{◌>>=◌}
use Rattle.topology.specs.Entry.{address_at, object_if_there}
use Rattle.topology.specs.LeftOut.{Left, further}
use Rattle.topology.specs.Outcome.{each, joined}
use Rattle.topology.specs.Place.{NamedPlace, control, discovery}
use Rattle.topology.specs.Routers.{members_of, or_none}
use Rattle.topology.specs.declared.servers.Kind.{Kind}
use Rattle.topology.specs.declared.servers.Kind.TheVariants.{Control, Discovery}

abbrev pub key_of : Kind → List ℕ
key_of Control = codes "control_service"
key_of Discovery = codes "discovery_service"

abbrev pub number_of : Kind → ℕ
number_of Control = 2
number_of Discovery = 1

abbrev pub place_of : Kind → List ℕ → NamedPlace
place_of Control name = control name
place_of Discovery name = discovery name

abbrev pub service_at : Kind → Underlay → List Service
service_at kind at = record { number = number_of kind; at = at } ∷ []

-- the service at the first of the servers, if there is one
abbrev pub first_in : Kind → Members → Option (List Service)
first_in kind no_members = Some []
first_in kind (member name d ms) = option_map (service_at kind) (address_at (codes "addr") d)

abbrev pub first_if_there : Kind → Option Members → Option (List Service)
first_if_there kind ms = first_in kind (or_none ms)

unfoldable pub service_of : Kind → Data → Option (List Service)
service_of kind d = object_if_there (key_of kind) d >>= first_if_there kind

-- the servers after the first one
abbrev pub after_first : Members → Members
after_first no_members = no_members
after_first (member name d ms) = ms

abbrev pub further_at : Kind → List ℕ → Data → List Left
further_at kind name d = further (place_of kind name) ∷ []

abbrev pub further_in : Kind → Members → List Left
further_in kind ms = each (further_at kind) ms

unfoldable pub further_of : Kind → Data → List Left
further_of kind d = further_in kind (after_first (members_of (object_if_there (key_of kind) d)))

-- the discovery service and the control service, each where there is one
unfoldable pub services_of : Data → Option (List Service)
services_of d = joined (service_of Discovery d) (service_of Control d)

unfoldable pub left_of_services : Data → List Left
left_of_services d = further_of Discovery d ++ further_of Control d
