use Rattle.topology.specs.Routers.{left_at, links_at}
use Rattle.topology.proofs.ListLemmas.{each_next, gather_next, joined_empty}
use Rattle.topology.proofs.routers.links_of.Goals as goal

pub loop-key-init : goal.loop-key-init
loop-key-init c = (rw (c.new-links.ensures.items, c.into_iter-key-iterator.ensures.into_iter_gives.0) (joined_empty _), rw c.into_iter-key-iterator.ensures.into_iter_gives.0)

pub loop-key-preserved : goal.loop-key-preserved
loop-key-preserved c = (
  gather_next (links_at c.args.router.now) _ c.loop-key.key-iterator c.next.new.self (c.in-Some.key.now, c.in-Some.value.now) _ _ c.as_str.result.now
      c.in-Some.ensures.steps c.as_str.ensures.value c.loop-key.invariant.0 c.in_ok-add_interface.ensures.links,
  each_next (left_at c.args.router.now) _ c.loop-key.key-iterator c.next.new.self (c.in-Some.key.now, c.in-Some.value.now) _ _ c.as_str.result.now
      c.in-Some.ensures.steps c.as_str.ensures.value c.loop-key.invariant.1 c.in_ok-add_interface.ensures.left_out,
)
