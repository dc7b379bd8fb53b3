-- Which wires there are between the links of several configurations.
use Rattle.std.specs.Prelude.{◌≡◌, ◌⊎◌, ℕ, List, Contains, Some}
use Rattle.std.specs.List.{slice_get}
use Rattle.process_packet.specs.declared.config.Config.{Config}
use Rattle.process_packet.specs.declared.neighbours.Link.{Link}
use Rattle.net_laws.specs.declared.net.End.{End}
use Rattle.net_laws.specs.declared.net.Wire.{Wire}
use Rattle.net_check.specs.Wires.{wires_of}

-- One of these configurations has the link, at this end.
pub record IsLinkAt (configs : List Config) (e : End) (l : Link) : Type 0 where
  pub config : Config
  pub config_is : slice_get configs e.router ≡ Some config
  pub owned : Contains config.links.items l
  pub number : l.id ≡ e.link

-- The remote address of one is the local one of the other.
abbrev pub OneLeadsToOther : Link → Link → Type 0
OneLeadsToOther l m = (l.remote ≡ m.local) ⊎ (m.remote ≡ l.local)

-- A wire joins two links of which one leads to the other.
pub record JoinsPair (configs : List Config) (w : Wire) : Type 0 where
  pub out : Link
  pub into : Link
  pub out_is : IsLinkAt configs w.one out
  pub into_is : IsLinkAt configs w.other into
  pub leads : OneLeadsToOther out into

-- Each wire is between such links, and there is one between each two of them.
pub record WiresJoinPairs : Type 0 where
  pub only : (configs : List Config) (w : Wire) → Contains (wires_of configs) w → JoinsPair configs w
  pub each : (configs : List Config) (e f : End) (l m : Link) → IsLinkAt configs e l → IsLinkAt configs f m → OneLeadsToOther l m
      → Contains (wires_of configs) (record { one = e; other = f }) ⊎ Contains (wires_of configs) (record { one = f; other = e })
