use Rattle.std.proofs.Common.{suc, arith}
use Rattle.packet_ledger.proofs.amounts.at_most.Goals as goal

pub returns-then-counts-most : goal.returns-then-counts-most
returns-then-counts-most c = λ most. let a = most 0 in let b = c.if-counts-most.true in absurd (omega arith)

pub returns-then-counts-most-2 : goal.returns-then-counts-most-2
returns-then-counts-most-2 c = λ most. let a = most 1 in let b = c.if-counts-most-2.true in absurd (omega arith)

pub returns-then-counts-most-3 : goal.returns-then-counts-most-3
returns-then-counts-most-3 c = λ most. let a = most 2 in let b = c.if-counts-most-3.true in absurd (omega arith)

pub returns-then-counts-i : goal.returns-then-counts-i
returns-then-counts-i c = λ most. let a = most (suc (suc (suc c.loop-i.i))) in let b = c.if-counts-i.true in absurd (omega arith)
