-- The definitions hold of the examples.
use Rattle.std.specs.Prelude.{ℕ}
use Rattle.net_laws.specs.Example.{example_net}
use Rattle.net_laws.specs.ExampleHops.{example_against, example_path, example_start}
use Rattle.net_laws.specs.ExampleTurn.{descent, descent_start, family, turn}
use Rattle.net_laws.specs.ExamplePorts.{PortsAgree}
use Rattle.net_laws.specs.PathSegments.{IsBeaconed, IsPathOver}
use Rattle.net_laws.specs.LawfulStart.{LawfulStart}
use Rattle.net_laws.specs.Net.{Agrees, Net}
use Rattle.net_laws.specs.OneHopStart.{LawfulOneHopStart, OneHopAt}

-- a quarter of an hour after the segments were made
abbrev pub moment : ℕ
moment = 1694499816

-- A net that agrees, in which a packet sets out lawfully on a path of one hop.
pub record OneHopExample : Type 0 where
  pub net : Net
  pub agrees : Agrees net
  pub start : OneHopAt
  pub starts : LawfulOneHopStart net moment start

-- The example's packet sets out lawfully; the segment is one too where it is travelled against, and so is the path up and down.
-- A packet sets out lawfully that changes its segment in an AS of two routers, so that its pair of links is split over both. Two
-- routers of one AS agree where they know the same ports.
pub record ExamplesAreLawful : Type 0 where
  pub agrees : Agrees example_net
  pub starts : LawfulStart example_net example_path moment example_start
  pub against : IsBeaconed example_net example_against
  pub turns : IsPathOver family turn
  pub family_agrees : Agrees family
  pub descends : LawfulStart family descent moment descent_start
  pub beacon : OneHopExample
  pub ports : PortsAgree
