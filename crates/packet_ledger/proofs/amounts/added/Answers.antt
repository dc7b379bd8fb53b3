use Rattle.std.proofs.Common.{suc, arith}
use Rattle.packet_ledger.proofs.amounts.added.Goals as goal

pub overflow_add-result : goal.overflow_add-result
overflow_add-result c = let a = c.requires.a 0 in let b = c.requires.b 0 in record { fits = omega arith }

pub overflow_add-result-2 : goal.overflow_add-result-2
overflow_add-result-2 c = let a = c.requires.a 1 in let b = c.requires.b 1 in record { fits = omega arith }

pub overflow_add-result-3 : goal.overflow_add-result-3
overflow_add-result-3 c = let a = c.requires.a 2 in let b = c.requires.b 2 in record { fits = omega arith }

pub added_each-requires-clause-xs : goal.added_each-requires-clause-xs
added_each-requires-clause-xs c = λ k. c.requires.a (suc (suc (suc k)))

pub added_each-requires-clause-ys : goal.added_each-requires-clause-ys
added_each-requires-clause-ys c = λ k. c.requires.b (suc (suc (suc k)))
