use Rattle.path_fields.proofs.PlaceLemmas.{followed_is}
use Rattle.path_fields.proofs.path.Path.is_followed.Goals as goal

pub returns : goal.returns
returns c = rw (c.from.ensures, c.segment_count.ensures.count) (followed_is c.args.self.now)
