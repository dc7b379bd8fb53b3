use Rattle.topology.specs.Routers.{siblings_at}
use Rattle.topology.proofs.ListLemmas.{joined_nothing}
use Rattle.topology.proofs.routers.add_router.Goals as goal

pub returns-in-None-clause-siblings : goal.returns-in-None-clause-siblings
unfolding siblings_at
returns-in-None-clause-siblings c =
    let none = rw c.in-None.is at c.in_ok-members.ensures in
    rw (← c.in_ok-at.ensures, ← none) (joined_nothing _)
