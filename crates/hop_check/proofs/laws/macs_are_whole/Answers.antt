use Rattle.hop_check.proofs.ExactLemmas.{whole}
use Rattle.hop_check.proofs.laws.macs_are_whole.Goals as goal

pub returns : goal.returns
returns c = whole
