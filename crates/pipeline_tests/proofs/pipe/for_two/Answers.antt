use Rattle.pipeline_tests.proofs.Pairs.{last_two, of_ok, popped, two_new}
use Rattle.pipeline_tests.proofs.pipe.for_two.Goals as goal

pub returns-clause-shape : goal.returns-clause-shape
returns-clause-shape g c = of_ok _ _ _ c.expect-pipe.ensures c.new.ensures.pipe

pub returns-clause-first : goal.returns-clause-first
returns-clause-first g c =
    let new = of_ok _ _ _ c.expect-pipe.ensures c.new.ensures.producers in
    let ends = last_two _ _ _ _ _ new.0 (popped _ _ _ _ c.pop.ensures.items c.expect-second.ensures) (popped _ _ _ _ c.pop-2.ensures.items c.expect-first.ensures) in
    (two_new _ _ _ _ _ new ends).0

pub returns-clause-second : goal.returns-clause-second
returns-clause-second g c =
    let new = of_ok _ _ _ c.expect-pipe.ensures c.new.ensures.producers in
    let ends = last_two _ _ _ _ _ new.0 (popped _ _ _ _ c.pop.ensures.items c.expect-second.ensures) (popped _ _ _ _ c.pop-2.ensures.items c.expect-first.ensures) in
    (two_new _ _ _ _ _ new ends).1

pub returns-clause-consumer : goal.returns-clause-consumer
returns-clause-consumer g c = of_ok _ _ _ c.expect-pipe.ensures c.new.ensures.consumer
