use Rattle.topology.specs.Topology.{topology_of}
use Rattle.topology.proofs.topology.read_topology.Goals as goal

pub returns : goal.returns
unfolding topology_of
returns c =
    rw (
      ← c.in_ok-isd_as.ensures,
      ← c.in_ok-routers.ensures,
      ← c.in_ok-own.ensures,
      ← c.in_ok-internal.ensures,
      ← c.in_ok-interfaces.ensures,
      ← c.in_ok-ports.ensures,
      c.in_ok-lists.ensures,
    )
