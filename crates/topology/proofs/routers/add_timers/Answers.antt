use Rattle.topology.specs.Routers.{timers_of}
use Rattle.topology.proofs.ListLemmas.{three}
use Rattle.topology.proofs.routers.add_timers.Goals as goal

pub returns : goal.returns
unfolding timers_of
returns c = rw (← c.in-Some.ensures) (three _ _ _ _ _ _ _ c.in_ok-add_timer.ensures c.in_ok-add_timer-2.ensures c.in_ok-add_timer-3.ensures)
