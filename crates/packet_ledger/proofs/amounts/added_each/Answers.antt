use Rattle.std.proofs.Common.{◌∙◌, sym, arith}
use Rattle.std.proofs.lemmas.List.{ext_get_or}
use Rattle.process_packet.specs.Cause.{causes}
use Rattle.packet_ledger.proofs.Counting.{each_at, length-add_each}
use Rattle.packet_ledger.proofs.amounts.added_each.Goals as goal

pub returns : goal.returns
returns c =
    let at = c.loop-i.invariant in
    let xs = c.args.xs.now in let ys = c.args.ys.now in
    let over = c.loop-i-test.false in let end = c.loop-i.auto.i-end in
    let long = length-add_each causes xs ys c.told-xs c.told-ys in
    ext_get_or 0 c.loop-i.sums _ (at.0 ∙ sym long) (λ k lt. at.1 k (omega arith) ∙ sym (each_at xs ys k))
