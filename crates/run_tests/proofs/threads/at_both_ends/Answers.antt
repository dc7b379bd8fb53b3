use Rattle.std.proofs.Common.{arith}
use Rattle.run_tests.proofs.OkLemmas.{of_ok}
use Rattle.run_tests.proofs.threads.at_both_ends.Goals as goal

pub ends_of-made-requires-clause-capacity : goal.ends_of-made-requires-clause-capacity
ends_of-made-requires-clause-capacity g c = (omega arith, omega arith)

pub ends_of-made-requires-clause-producers : goal.ends_of-made-requires-clause-producers
ends_of-made-requires-clause-producers g c = (omega arith, omega arith)

pub next_producer-requires-clause-new : goal.next_producer-requires-clause-new
next_producer-requires-clause-new g c = of_ok _ c.ends_of-made.result c.expect-ends.result c.expect-ends.ensures c.ends_of-made.ensures.ends

pub next_producer-requires-clause-some : goal.next_producer-requires-clause-some
next_producer-requires-clause-some g c = let count = of_ok _ c.ends_of-made.result c.expect-ends.result c.expect-ends.ensures c.ends_of-made.ensures.count in omega arith

pub of-to-requires : goal.of-to-requires
of-to-requires g c = c.next_producer.ensures.next.0

pub of-requires-clause-fresh : goal.of-requires-clause-fresh
of-requires-clause-fresh g c = (of_ok _ c.ends_of-made.result c.expect-ends.result c.expect-ends.ensures c.ends_of-made.ensures.taker).0

pub of-requires-clause-producers : goal.of-requires-clause-producers
of-requires-clause-producers g c = (of_ok _ c.ends_of-made.result c.expect-ends.result c.expect-ends.ensures c.ends_of-made.ensures.taker).2
