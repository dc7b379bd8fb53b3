use Rattle.net_laws.proofs.WalkLemmas.{always, walked}
use Rattle.net_laws.proofs.laws.routes_are_walked.Goals as goal

pub returns : goal.returns
returns c = record { always = always; unasked = walked }
