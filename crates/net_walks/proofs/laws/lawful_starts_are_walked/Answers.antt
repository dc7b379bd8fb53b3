use Rattle.net_laws.proofs.LawfulLemmas.{unasked}
use Rattle.net_walks.proofs.LawfulWalk.{starts_walked}
use Rattle.net_walks.proofs.laws.lawful_starts_are_walked.Goals as goal

pub returns : goal.returns
returns c net ss moment a agrees numbered are start =
    starts_walked net ss moment a agrees numbered are start.sets_out (unasked net ss moment a agrees numbered are start.sets_out start.quiet)
