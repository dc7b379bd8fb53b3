use Rattle.std.specs.Arc.{arc_value}
use Rattle.worker_processor.proofs.AnsweringLemmas.{keeps_first}
use Rattle.worker_processor.proofs.slow_path.SlowPath.new.Goals as goal

pub invariant_of-result : goal.invariant_of-result
invariant_of-result g c =
    keeps_first g.N.RunBrand.config c.args.from (record { config = (arc_value c.args.shared).config; links = c.args.links.items; free = c.args.free.items; share = c.args.share }) c.requires.config c.requires.from c.requires.links.1 c.requires.share
