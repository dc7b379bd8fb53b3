use Rattle.std.proofs.Common.{arith, ◌∷◌}
use Rattle.std.proofs.lemmas.Nat.{be_bytes_8}
use Rattle.hop_check.proofs.MacLemmas.{eight_bytes}
use Rattle.hop_check.proofs.mac.number_of.Goals as goal

pub returns : goal.returns
returns c =
    be_bytes_8 (0 ∷ 0 ∷ c.args.mac.now) c.from_be_bytes.result (omega arith) (eight_bytes c.args.mac.now c.fits-mac) c.from_be_bytes.ensures
