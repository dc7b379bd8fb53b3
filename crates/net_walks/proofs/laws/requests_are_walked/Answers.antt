use Rattle.net_walks.proofs.LawfulWalk.{requests_walked}
use Rattle.net_walks.proofs.laws.requests_are_walked.Goals as goal

pub returns : goal.returns
returns c net ss moment a agrees numbered are start = requests_walked net ss moment a agrees numbered are start
