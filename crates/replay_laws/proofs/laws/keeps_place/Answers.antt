use Rattle.replay_laws.proofs.Place.{keeps_place}
use Rattle.replay_laws.proofs.laws.keeps_place.Goals as goal

pub returns : goal.returns
returns g c = record { law = keeps_place _ }
