use Rattle.std.proofs.Common.{rules, arith}
use Rattle.packet_ledger.proofs.share.Share.forwarded.Goals as goal

pub overflow_add-result : goal.overflow_add-result
overflow_add-result g c = let a = c.self.invariant.4 1 in let b = c.self.invariant.4 2 in record { fits = omega arith }

pub overflow_add-result-2 : goal.overflow_add-result-2
overflow_add-result-2 g c = let a = c.self.invariant.3 1 in let b = c.self.invariant.3 2 in record { fits = omega arith }

pub overflow_add-result-3 : goal.overflow_add-result-3
overflow_add-result-3 g c =
    let a = c.self.invariant.4 1 in let b = c.self.invariant.4 2 in let d = c.self.invariant.3 1 in let e = c.self.invariant.3 2 in record { fits = omega arith }

pub returns : goal.returns
returns g c = search rules
