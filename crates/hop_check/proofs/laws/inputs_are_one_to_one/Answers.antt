use Rattle.hop_check.proofs.InputLemmas.{one_to_one}
use Rattle.hop_check.proofs.laws.inputs_are_one_to_one.Goals as goal

pub returns : goal.returns
returns c = one_to_one
