use Rattle.std.proofs.Common.{rules, arith, refl}
use Rattle.path_fields.proofs.PlaceLemmas.{advanced, ended}
use Rattle.path_fields.proofs.moves.advance.Goals as goal

pub returns-clause-moved : goal.returns-clause-moved
returns-clause-moved c = advanced c.args.path.now c.segment_of-path.result (omega arith) (rw c.from-next.ensures at c.segment_of-path.ensures.segment)

pub returns-then-next-hop_count-clause-end : goal.returns-then-next-hop_count-clause-end
returns-then-next-hop_count-clause-end c = ((λ e. ended c.args.path.now (omega arith)), (λ e. refl))

pub returns-clause-end : goal.returns-clause-end
returns-clause-end c =
    let moved = advanced c.args.path.now c.segment_of-path.result (omega arith) (rw c.from-next.ensures at c.segment_of-path.ensures.segment) in
    ((λ e. absurd cc), (λ e. absurd (cc (moved, e))))

pub invariant_of-path : goal.invariant_of-path
invariant_of-path c = search rules
