use Rattle.std.proofs.Common.{◌≡◌, ◌+◌, ℕ, subst, arith}
use Rattle.router_rules.specs.Links.{link_count}
use Rattle.run_ends.specs.Opened.{AreNewPipes}
use Rattle.run_pipes.proofs.pipes.free_pipes.Goals as goal

pub returns : goal.returns
returns c =
    let o = c.in_ok-opened.opened in
    let config = c.args.shared.now.config in
    let links = c.link_count-links.ensures.count in
    let processors = c.from-processors.ensures in
    let e : c.from-processors.result + 2 + c.link_count-links.result ≡ config.processors + 2 + link_count config = omega arith in
    subst (λ (n : ℕ). AreNewPipes (λ _. config.buffers) n (link_count config) o.pipes.items o.takers.items) e
    (subst (λ (m : ℕ). AreNewPipes (λ _. config.buffers) (c.from-processors.result + 2 + c.link_count-links.result) m o.pipes.items o.takers.items) links c.in_ok-opened.ensures)
