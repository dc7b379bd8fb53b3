use Rattle.key_derivation.proofs.KeyLemmas.{first_half}
use Rattle.key_derivation.proofs.pbkdf2.forwarding_key.Goals as goal

pub returns : goal.returns
returns c = let half = first_half c.args.master.now in cc
