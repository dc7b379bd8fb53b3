use Rattle.topology.specs.Routers.{peers_unless, siblings_unless}
use Rattle.topology.proofs.ListLemmas.{each_next, gather_next, joined_empty}
use Rattle.topology.proofs.routers.siblings_beside.Goals as goal

pub loop-key-init : goal.loop-key-init
loop-key-init c = (rw (c.new-siblings.ensures.items, c.into_iter-key-iterator.ensures.into_iter_gives.0) (joined_empty _), rw c.into_iter-key-iterator.ensures.into_iter_gives.0)

pub loop-key-preserved : goal.loop-key-preserved
loop-key-preserved c = (
  gather_next (siblings_unless c.args.own.now) _ c.loop-key.key-iterator c.next.new.self (c.in-Some.key.now, c.in-Some.value.now) _ _ c.as_str.result.now
      c.in-Some.ensures.steps c.as_str.ensures.value c.loop-key.invariant.0 c.in_ok-add_unless_own.ensures.siblings,
  each_next (peers_unless c.args.own.now) _ c.loop-key.key-iterator c.next.new.self (c.in-Some.key.now, c.in-Some.value.now) _ _ c.as_str.result.now
      c.in-Some.ensures.steps c.as_str.ensures.value c.loop-key.invariant.1 c.in_ok-add_unless_own.ensures.left_out,
)
