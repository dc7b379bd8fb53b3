use Rattle.std.proofs.lemmas.Result.{err_from_is_err_and}
use Rattle.topology.specs.Topology.{topology_values}
use Rattle.cli_import.specs.Import.{NoImportOf}
use Rattle.cli_import.proofs.imported.import_topology.Goals as goal

pub returns-in_err-made-clause-fault : goal.returns-in_err-made-clause-fault
returns-in_err-made-clause-fault c =
    let p = err_from_is_err_and c.from_residual-in_err-made.result c.from_residual-in_err-made.ensures.1 in rw (p.1, p.2)
    (NoImportOf.refused (topology_values c.in_ok-topology.topology) c.in_ok-topology.ensures.said (rw c.ports_of-ports.ensures at c.in_err-made.ensures.fault))
