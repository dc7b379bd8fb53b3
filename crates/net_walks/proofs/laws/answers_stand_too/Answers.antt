use Rattle.net_walks.proofs.BackStands.{stands_back}
use Rattle.net_walks.proofs.laws.answers_stand_too.Goals as goal

pub returns : goal.returns
returns c net w from moment a x q agrees route stands here under path way = stands_back net w from moment a x q route stands here under path way
