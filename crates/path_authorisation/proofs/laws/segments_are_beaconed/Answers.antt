use Rattle.path_authorisation.proofs.StretchLemmas.{segments_beaconed}
use Rattle.path_authorisation.proofs.laws.segments_are_beaconed.Goals as goal

pub returns : goal.returns
returns c = segments_beaconed
