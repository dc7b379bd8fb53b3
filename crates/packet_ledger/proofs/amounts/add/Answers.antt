use Rattle.std.proofs.Common.{◌≡◌, length, rules, suc, sym, arith}
use Rattle.process_packet.specs.Cause.{causes}
use Rattle.packet_ledger.proofs.Counting.{add_none}
use Rattle.packet_ledger.proofs.amounts.add.Goals as goal

pub raise_count-requires : goal.raise_count-requires
raise_count-requires c = let a = c.requires.counts 0 in let b = c.requires.more 0 in omega arith

pub raise_count-requires-2 : goal.raise_count-requires-2
raise_count-requires-2 c = let a = c.requires.counts 1 in let b = c.requires.more 1 in omega arith

pub raise_count-requires-3 : goal.raise_count-requires-3
raise_count-requires-3 c = let a = c.requires.counts 2 in let b = c.requires.more 2 in omega arith

pub added_each-sums-requires-clause-xs : goal.added_each-sums-requires-clause-xs
added_each-sums-requires-clause-xs c = λ k. c.requires.counts (suc (suc (suc k)))

pub added_each-sums-requires-clause-ys : goal.added_each-sums-requires-clause-ys
added_each-sums-requires-clause-ys c = λ k. c.requires.more (suc (suc (suc k)))

pub returns-else-drops : goal.returns-else-drops
returns-else-drops c =
    let long : length c.args.counts.now.dropped ≡ causes = search rules in
    let same = add_none c.args.counts.now.dropped c.args.more.now.dropped long (c.requires.drops c.if-drops.false) in
    λ i. record { received = c.raise_count.ensures i; sent = c.raise_count-2.ensures i; answered = c.raise_count-3.ensures i; dropped = sym same i }
