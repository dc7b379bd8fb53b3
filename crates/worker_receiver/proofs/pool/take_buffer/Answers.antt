use Rattle.std.proofs.Common.{sym}
use Rattle.worker_receiver.proofs.PoolLemmas.{passed_more}
use Rattle.worker_receiver.proofs.pool.take_buffer.Goals as goal

pub loop-preserved : goal.loop-preserved
loop-preserved g c = passed_more c.args.free.now c.loop.free c.take.new.self c.in-Some-take.entry c.loop.invariant (sym c.in_default-buffer_of.ensures) c.in-Some-take.ensures.step
