-- The parts of a topology, by their names.
use Rattle.std.specs.Prelude.{ℕ, List}
use Rattle.topology.specs.declared.fault.Place.{Place}
use Rattle.topology.specs.declared.fault.Place.TheVariants.{Top, Routers, Router, Interface, Underlay, Bfd, Control, Discovery}

pub data NamedPlace : Type 0 where
  top : NamedPlace
  routers : NamedPlace
  router : List ℕ → NamedPlace
  interface : List ℕ → List ℕ → NamedPlace
  underlay : List ℕ → List ℕ → NamedPlace
  bfd : List ℕ → List ℕ → NamedPlace
  control : List ℕ → NamedPlace
  discovery : List ℕ → NamedPlace

abbrev pub named : Place → NamedPlace
named Top = top
named Routers = routers
named (Router name) = router name.now
named (Interface id of) = interface id.now of.now
named (Underlay id of) = underlay id.now of.now
named (Bfd id of) = bfd id.now of.now
named (Control name) = control name.now
named (Discovery name) = discovery name.now
