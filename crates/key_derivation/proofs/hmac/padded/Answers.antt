use Rattle.std.proofs.Common.{ℕ, arith, length}
use Rattle.std.proofs.lemmas.Grind.{common_steps}
use Rattle.std.proofs.lemmas.List.{drop-replicate}
use Rattle.key_derivation.proofs.hmac.padded.Goals as goal

pub returns : goal.returns
returns c = let rest = drop-replicate {X = ℕ} (length c.args.part.now) 64 0 in grind (arith, common_steps, rest)
