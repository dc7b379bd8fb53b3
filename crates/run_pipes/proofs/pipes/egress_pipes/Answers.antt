use Rattle.std.proofs.Common.{◌≡◌, ◌+◌, ◌*◌, ℕ, subst, arith}
use Rattle.router_rules.specs.Links.{link_count}
use Rattle.run_ends.specs.Opened.{AreNewPipes}
use Rattle.run_pipes.specs.Piping.{egress_capacity}
use Rattle.run_pipes.proofs.pipes.egress_pipes.Goals as goal

pub loop-at-init : goal.loop-at-init
loop-at-init g c = c.none-opened.ensures (egress_capacity c.args.shared.now.config) _

pub loop-at-preserved : goal.loop-at-preserved
loop-at-preserved g c = c.in_ok-opened.ensures (egress_capacity c.args.shared.now.config) c.loop-at.at c.loop-at.invariant c.capacity_at.ensures.capacity

pub returns : goal.returns
returns g c =
    let config = c.args.shared.now.config in
    let at = c.loop-at in
    let all : at.at ≡ 2 * link_count config = let a = at.auto.at-end in let f = c.loop-at-test.false in let l = c.link_count-links.ensures.count in omega arith in
    let n = c.from-producers.ensures in
    subst (λ (m : ℕ). AreNewPipes (egress_capacity config) (m + 2) (2 * link_count config) at.opened.pipes.items at.opened.takers.items) n
    (subst (λ (k : ℕ). AreNewPipes (egress_capacity config) (c.from-producers.result + 2) k at.opened.pipes.items at.opened.takers.items) all at.invariant)
