use Rattle.ruled_pipe.specs.Pipe.{shape_of}
use Rattle.run_ends.proofs.SettledLemmas.{is_done}
use Rattle.run_ends.proofs.settling.settle.Goals as goal

pub settle-requires-clause-all : goal.settle-requires-clause-all
settle-requires-clause-all g c = (c.requires.0, c.requires.1.1.count)

pub settle-requires-clause-consumer : goal.settle-requires-clause-consumer
settle-requires-clause-consumer g c = let t = c.requires.1.1.taker in (t.pipe, t.producers, t.capacity)

pub returns : goal.returns
returns g c = is_done c.drains.ensures.law c.stays_empty.ensures.law c.requires.1.0 (shape_of c.args.pipe) c.args.pipe.senders c.args.taker c.requires.1.1 c.settle.ensures.whole
