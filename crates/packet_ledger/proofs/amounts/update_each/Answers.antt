use Rattle.std.proofs.Common.{◌∙◌, sym, arith}
use Rattle.std.proofs.lemmas.List.{ext_get_or}
use Rattle.packet_ledger.proofs.amounts.update_each.Goals as goal

pub returns : goal.returns
returns c =
    let at = c.loop-i.invariant in
    let over = c.loop-i-test.false in let end = c.loop-i.auto.i-end in
    ext_get_or 0 c.loop-i.counts _ (at.0 ∙ sym c.told-to) (λ k lt. at.1 k (omega arith))
