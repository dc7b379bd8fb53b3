use Rattle.worker_processor.proofs.AnsweringLemmas.{keeps_posted}
use Rattle.worker_processor.proofs.slow_path.SlowPathTurnsBook.post.Goals as goal

pub invariant_of-self : goal.invariant_of-self
invariant_of-self g c = keeps_posted g.N.RunBrand.config c.self.inside.from c.self.inside.exits c.self.invariant c.post.new.self c.post.ensures.share c.post.ensures.same
