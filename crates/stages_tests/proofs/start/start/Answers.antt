use Rattle.stages_tests.proofs.ShareLemmas.{all_are_new}
use Rattle.stages_tests.proofs.start.start.Goals as goal

pub next_share-share-requires-clause-new : goal.next_share-share-requires-clause-new
next_share-share-requires-clause-new g c = all_are_new 0 _ c.requires.shares.0
