use Rattle.std.proofs.Common.{arith}
use Rattle.packet_ledger.proofs.Counting.{most_without}
use Rattle.packet_ledger.proofs.amounts.sums_fit.Goals as goal

pub overflow_add-a : goal.overflow_add-a
overflow_add-a c = let a = c.requires.a 0 in let b = c.requires.b 0 in record { fits = omega arith }

pub overflow_add-a-2 : goal.overflow_add-a-2
overflow_add-a-2 c = let a = c.requires.a 1 in let b = c.requires.b 1 in record { fits = omega arith }

pub overflow_add-a-3 : goal.overflow_add-a-3
overflow_add-a-3 c = let a = c.requires.a 2 in let b = c.requires.b 2 in record { fits = omega arith }

pub returns-then-a-b-gt-MOST : goal.returns-then-a-b-gt-MOST
returns-then-a-b-gt-MOST c = λ most. let a = most 0 in let b = c.if-a-b-gt-MOST.true in absurd (omega arith)

pub returns-then-a-b-gt-MOST-2 : goal.returns-then-a-b-gt-MOST-2
returns-then-a-b-gt-MOST-2 c = λ most. let a = most 1 in let b = c.if-a-b-gt-MOST-2.true in absurd (omega arith)

pub returns-then-a-b-gt-MOST-3 : goal.returns-then-a-b-gt-MOST-3
returns-then-a-b-gt-MOST-3 c = λ most. let a = most 2 in let b = c.if-a-b-gt-MOST-3.true in absurd (omega arith)

pub returns-else-drops : goal.returns-else-drops
returns-else-drops c =
    let r = c.if-a-b-gt-MOST.false in let s = c.if-a-b-gt-MOST-2.false in let w = c.if-a-b-gt-MOST-3.false in
    most_without _ c.args.a.now c.args.b.now (c.requires.drops c.if-drops.false) c.requires.a (omega arith) (omega arith) (omega arith)
