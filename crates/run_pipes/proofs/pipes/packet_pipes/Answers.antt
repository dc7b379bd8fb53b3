use Rattle.std.proofs.Common.{ℕ, subst}
use Rattle.run_ends.specs.Opened.{AreNewPipes}
use Rattle.run_pipes.proofs.pipes.packet_pipes.Goals as goal

pub returns : goal.returns
returns g c =
    let o = c.in_ok-opened.opened in
    let config = c.args.shared.now.config in
    subst (λ (n : ℕ). AreNewPipes (λ _. config.capacity) n config.processors o.pipes.items o.takers.items) c.link_count-links.ensures.count
    (subst (λ (m : ℕ). AreNewPipes (λ _. config.capacity) c.link_count-links.result m o.pipes.items o.takers.items) c.from-processors.ensures c.in_ok-opened.ensures)
