use Rattle.path_fields.proofs.PlaceLemmas.{last_is}
use Rattle.path_fields.proofs.path.Path.is_last_of_segment.Goals as goal

pub returns : goal.returns
returns c = rw c.from.ensures (last_is c.args.self.now c.end_of.result c.end_of.ensures)
