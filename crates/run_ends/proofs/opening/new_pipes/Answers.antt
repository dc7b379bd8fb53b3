use Rattle.std.proofs.Common.{◌≡◌, ℕ, refl, subst, arith}
use Rattle.run_ends.specs.Opened.{AreNewPipes}
use Rattle.run_ends.proofs.opening.new_pipes.Goals as goal

pub loop-k-preserved : goal.loop-k-preserved
loop-k-preserved g c = c.in_ok-opened.ensures (λ _. c.args.capacity) c.loop-k.k c.loop-k.invariant refl

pub returns : goal.returns
returns g c =
    let at = c.loop-k in
    let all : at.k ≡ c.args.count = let a = at.auto.k-end in let f = c.loop-k-test.false in omega arith in
    subst (λ (n : ℕ). AreNewPipes (λ _. c.args.capacity) c.args.producers n at.opened.pipes.items at.opened.takers.items) all at.invariant
