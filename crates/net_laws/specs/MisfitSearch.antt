-- The search for what doesn't fit in a net: `Misfit` says what it finds.
use Rattle.std.specs.Prelude.{ℕ, Bool, true, false, not, ◌||◌, ◌==◌, List, find, map, Option, Some, None, if◌then◌else◌, option_map, position}
use Rattle.std.specs.List.{enumerate_from, slice_get}
use Rattle.std.specs.Option.{option_and_then}
use Rattle.std.specs.Str.{bytes_eq}
use Rattle.process_packet.specs.declared.config.Config.{Config}
use Rattle.process_packet.specs.declared.neighbours.Link.{Link}
use Rattle.process_packet.specs.declared.neighbours.Service.{Service}
use Rattle.process_packet.specs.declared.neighbours.Sibling.{Sibling}
use Rattle.process_packet.specs.declared.underlay.Underlay.{Underlay}
use Rattle.process_packet.specs.Network.{Network, own_link, sibling}
use Rattle.process_packet.specs.Underlay.{same_underlay}
use Rattle.net_laws.specs.Agreement.{agree_as, are_apart, are_opposite, config_agrees, has_service, is_apart, is_wire, link_at, lists, names_end, same_end, same_kind, same_ports}
use Rattle.net_laws.specs.Net.{Router, router_of}
use Rattle.net_laws.specs.declared.misfit.Difference.{Difference}
use Rattle.net_laws.specs.declared.misfit.Difference.TheVariants as difference
use Rattle.net_laws.specs.declared.misfit.Misfit.{Misfit}
use Rattle.net_laws.specs.declared.misfit.Misfit.TheVariants as misfit
use Rattle.net_laws.specs.declared.misfit.Mismatch.{Mismatch}
use Rattle.net_laws.specs.declared.misfit.Mismatch.TheVariants as mismatch
use Rattle.net_laws.specs.declared.net.Wire.{Wire}

-- this is wrong unless the test passes; else what comes next
abbrev pub or_next : {A : Type 0} → Bool → A → Option A → Option A
or_next true wrong next = next
or_next false wrong next = Some wrong

-- ---- two routers of one AS

abbrev pub of_entry : Underlay → Link → Option Sibling → Option Difference
of_entry at l None = Some (difference.Unlisted l.id)
of_entry at l (Some s) = or_next (same_underlay s.at at) (difference.Elsewhere l.id) (or_next (same_kind s.kind l.kind) (difference.OtherKind l.id) None)

abbrev pub of_own : Option Link → Underlay → Link → Option Sibling → Option Difference
of_own None at l entry = of_entry at l entry
of_own (Some own) at l entry = Some (difference.SameInterface l.id)

abbrev pub of_listing : Network → Underlay → Link → Option Difference
of_listing n at l = of_own (own_link n l.id) at l (sibling n l.id)

abbrev pub of_unlisted : Network → Underlay → Option Link → Option Difference
of_unlisted n at None = None
of_unlisted n at (Some l) = of_listing n at l

abbrev pub of_neighbours : Router → Router → Option Difference
of_neighbours x y =
    or_next (not (same_underlay x.internal y.internal)) difference.Internal
    (of_unlisted x.network y.internal (find (λ l. not (lists x.network y.internal l)) y.network.links))

abbrev pub of_unshared : Option Service → Option Difference → Option Difference
of_unshared None next = next
of_unshared (Some s) next = Some (difference.Service s.number)

abbrev pub of_lists : Bool → Router → Router → Option Difference
of_lists same x y =
    of_unshared (find (λ s. not (has_service y.network.services s)) x.network.services) (if same then None else of_neighbours x y)

abbrev pub of_two : Bool → Router → Router → Option Difference
of_two same x y =
    or_next (bytes_eq x.network.key y.network.key) difference.Key
    (or_next (x.network.host_port == y.network.host_port) difference.HostPort
    (or_next (same_ports x.network.dispatched_ports y.network.dispatched_ports) difference.DispatchedPorts (of_lists same x y)))

-- ---- all routers

abbrev pub first_router : List Config → Option ℕ
first_router configs = position (λ (p : ℕ × Config). not (config_agrees configs p.0 (router_of p.1))) (enumerate_from 0 configs)

abbrev pub first_other : List Config → ℕ → Config → Option ℕ
first_other configs r c = position (λ (p : ℕ × Config). not (agree_as r p.0 (router_of c) (router_of p.1))) (enumerate_from 0 configs)

abbrev pub of_pair : ℕ → ℕ → Config → Option Config → Option Misfit
of_pair r q c None = None
of_pair r q c (Some d) = option_map (misfit.Routers r q) (of_two (r == q) (router_of c) (router_of d))

abbrev pub of_router : List Config → ℕ → Option Config → Option Misfit
of_router configs r None = None
of_router configs r (Some c) = option_and_then (λ q. of_pair r q c (slice_get configs q)) (first_other configs r c)

abbrev pub of_routers : List Config → Option Misfit
of_routers configs = option_and_then (λ r. of_router configs r (slice_get configs r)) (first_router configs)

-- ---- wires

abbrev pub of_ends : List Router → Wire → Option Link → Option Link → Option Mismatch
of_ends routers w None into = Some mismatch.NoLink
of_ends routers w (Some out) None = Some mismatch.NoLink
of_ends routers w (Some out) (Some into) =
    or_next (not (same_end w.one w.other)) mismatch.SameEnd
    (or_next (same_underlay out.remote into.local) mismatch.Remote
    (or_next (same_underlay into.remote out.local) mismatch.RemoteBack
    (or_next (are_opposite out.kind into.kind) mismatch.Kinds
    (or_next (names_end routers out w.other) mismatch.Neighbor (or_next (names_end routers into w.one) mismatch.NeighborBack None)))))

abbrev pub of_wire : List Router → Wire → Option Mismatch
of_wire routers w = of_ends routers w (link_at routers w.one) (link_at routers w.other)

abbrev pub of_broken : List Router → Option Wire → Option Misfit
of_broken routers None = None
of_broken routers (Some w) = option_map (misfit.Wire w) (of_wire routers w)

abbrev pub of_wires : List Config → List Wire → Option Misfit
of_wires configs wires = of_broken (map router_of configs) (find (λ w. not (is_wire (map router_of configs) w)) wires)

-- ---- ends in common

abbrev pub are_apart_as : ℕ → ℕ → Wire → Wire → Bool
are_apart_as j k v w = (j == k) || are_apart v w

abbrev pub first_sharing : List Wire → Option ℕ
first_sharing wires = position (λ (p : ℕ × Wire). not (is_apart wires p.0 p.1)) (enumerate_from 0 wires)

abbrev pub first_shared : List Wire → ℕ → Wire → Option ℕ
first_shared wires j v = position (λ (p : ℕ × Wire). not (are_apart_as j p.0 v p.1)) (enumerate_from 0 wires)

abbrev pub of_sharing : List Wire → ℕ → Option Wire → Option Misfit
of_sharing wires j None = None
of_sharing wires j (Some v) = option_and_then (λ k. option_map (misfit.Shared v) (slice_get wires k)) (first_shared wires j v)

abbrev pub of_shared : List Wire → Option Misfit
of_shared wires = option_and_then (λ j. of_sharing wires j (slice_get wires j)) (first_sharing wires)

-- ---- the net

abbrev pub or_else : Option Misfit → Option Misfit → Option Misfit
or_else None next = next
or_else (Some m) next = Some m

abbrev pub of_net : List Config → List Wire → Option Misfit
of_net configs wires = or_else (of_routers configs) (or_else (of_wires configs wires) (of_shared wires))
