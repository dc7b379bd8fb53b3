use Rattle.topology.specs.Routers.{peer_at, siblings_by}
use Rattle.topology.proofs.ListLemmas.{each_next, gather_next}
use Rattle.topology.proofs.routers.add_interfaces.Goals as goal

pub loop-key-init : goal.loop-key-init
loop-key-init c = (rw c.into_iter-key-iterator.ensures.into_iter_gives.0, rw c.into_iter-key-iterator.ensures.into_iter_gives.0)

pub loop-key-preserved : goal.loop-key-preserved
loop-key-preserved c = (
  gather_next (siblings_by c.args.at) _ c.loop-key.key-iterator c.next.new.self (c.in-Some.key.now, c.in-Some.value.now) _ _ c.as_str.result.now
      c.in-Some.ensures.steps c.as_str.ensures.value c.loop-key.invariant.0 c.in_ok-add_sibling.ensures.siblings,
  each_next (peer_at c.args.router.now) _ c.loop-key.key-iterator c.next.new.self (c.in-Some.key.now, c.in-Some.value.now) _ _ c.as_str.result.now
      c.in-Some.ensures.steps c.as_str.ensures.value c.loop-key.invariant.1 c.in_ok-add_sibling.ensures.left_out,
)
