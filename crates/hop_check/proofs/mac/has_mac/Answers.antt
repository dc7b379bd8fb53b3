use Rattle.std.proofs.Common.{ap, arith, take, ◌∙◌, ◌∷◌, List, ℕ}
use Rattle.cmac_core.specs.Cmac.{tag}
use Rattle.hop_check.proofs.MacLemmas.{numbers_tell}
use Rattle.hop_check.proofs.mac.has_mac.Goals as goal

pub returns : goal.returns
returns c =
    numbers_tell c.args.mac c.number_of.result _ (omega arith) (omega arith)
    (c.number_of.ensures
    ∙ ap (λ (mac : List ℕ). 0 ∷ 0 ∷ mac) c.tag6_block.ensures
    ∙ ap (λ (block : List ℕ). 0 ∷ 0 ∷ take 6 (tag c.args.cmac.now block)) c.block_of.ensures)
