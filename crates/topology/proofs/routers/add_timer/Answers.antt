use Rattle.std.proofs.Common.{sym, append-nil}
use Rattle.topology.specs.LeftOut.{left}
use Rattle.topology.specs.Routers.{timer_in}
use Rattle.topology.proofs.ListLemmas.{map_push}
use Rattle.topology.proofs.routers.add_timer.Goals as goal

pub returns-in_default : goal.returns-in_default
unfolding timer_in
returns-in_default c = rw (← c.in_default.ensures) (sym (append-nil _))

pub returns : goal.returns
unfolding timer_in
returns c = rw (← c.in-Some.ensures, c.in_ok-push.ensures.items) (map_push left _ _)
