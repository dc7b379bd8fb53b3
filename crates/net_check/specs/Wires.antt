-- The wires between the links of several configurations, in their order.
use Rattle.std.specs.Prelude.{ℕ, zero, suc, Bool, ◌||◌, List, [], ◌∷◌, ◌++◌, Option, Some, None, if◌then◌else◌, length}
use Rattle.std.specs.List.{slice_get}
use Rattle.process_packet.specs.declared.config.Config.{Config}
use Rattle.process_packet.specs.declared.neighbours.Link.{Link}
use Rattle.process_packet.specs.Underlay.{same_underlay}
use Rattle.net_laws.specs.Net.{end_at}
use Rattle.net_laws.specs.declared.net.Wire.{Wire}
use Rattle.net_check.specs.declared.wires.PlacedLink.{PlacedLink}

-- ---- links, with their places

abbrev pub place_of : ℕ → Link → PlacedLink
place_of router l = record { end = end_at router l.id; link = l }

abbrev pub placed : ℕ → Option Link → List PlacedLink
placed router None = []
placed router (Some l) = place_of router l ∷ []

-- what each of the first n numbers gives
abbrev pub joined : {A : Type 0} → (ℕ → List A) → ℕ → List A
joined given zero = []
joined given (suc n) = joined given n ++ given n

-- the first n links of a router
abbrev pub of_links : ℕ → List Link → ℕ → List PlacedLink
of_links router links n = joined (λ k. placed router (slice_get links k)) n

abbrev pub of_router : ℕ → Option Config → List PlacedLink
of_router router None = []
of_router router (Some c) = of_links router c.links.items (length c.links.items)

-- the links of the first n routers
abbrev pub links_in : List Config → ℕ → List PlacedLink
links_in configs n = joined (λ k. of_router k (slice_get configs k)) n

-- ---- wires

-- one leads to the other: its remote address is the other's local one
abbrev pub are_paired : Link → Link → Bool
are_paired one other = same_underlay one.remote other.local || same_underlay other.remote one.local

abbrev pub of_pair : PlacedLink → PlacedLink → List Wire
of_pair one other = if are_paired one.link other.link then record { one = one.end; other = other.end } ∷ [] else []

abbrev pub between : Option PlacedLink → Option PlacedLink → List Wire
between None other = []
between (Some one) None = []
between (Some one) (Some other) = of_pair one other

-- between the link at a place and the first n
abbrev pub below : List PlacedLink → ℕ → ℕ → List Wire
below links place n = joined (λ k. between (slice_get links k) (slice_get links place)) n

-- between the link at a place and those before it, and itself
abbrev pub to : List PlacedLink → ℕ → List Wire
to links place = below links place (suc place)

-- among the first n links
abbrev pub among : List PlacedLink → ℕ → List Wire
among links n = joined (to links) n

abbrev pub wires_among : List PlacedLink → List Wire
wires_among links = among links (length links)

abbrev pub all_links : List Config → List PlacedLink
all_links configs = links_in configs (length configs)

abbrev pub wires_of : List Config → List Wire
wires_of configs = wires_among (all_links configs)
