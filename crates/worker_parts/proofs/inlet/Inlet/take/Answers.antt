use Rattle.std.proofs.Common.{sym, subst, ◌<◌}
use Rattle.ruled_pipe.specs.Consumer.{Taker}
use Rattle.ruled_pipe.specs.Gathered.{ends_in}
use Rattle.worker_parts.proofs.Marks.{taken_more}
use Rattle.worker_parts.proofs.inlet.Inlet.take.Goals as goal

pub invariant_of-self-2 : goal.invariant_of-self-2
invariant_of-self-2 g c =
    let below : ends_in c.self.inside.consumer.taken < c.self.inside.consumer.producers = subst (λ (t : Taker g.row.T.Denot). ends_in t.taken < t.producers) (sym c.self.view_is) c.requires in
    taken_more c.self.inside.consumer c.take.new.self c.in_ok-load.field-0 c.self.inside.producers c.self.inside.ends c.end_of.result c.in_ok-load.ensures.step c.end_of.ensures c.self.invariant below
