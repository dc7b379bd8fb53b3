use Rattle.std.proofs.Common.{◌≡◌, ℕ, ◌*◌, ◌+◌, ◌/◌, sym, ap, ◌∙◌, arith}
use Rattle.router_rules.specs.Links.{has_two_bands}
use Rattle.worker_parts.specs.Outlets.{is_used}
use Rattle.worker_parts.proofs.UsedLemmas.{used_high, used_low}
use Rattle.run_pipes.proofs.handing.is_used.Goals as goal

pub returns-then-at-eq0 : goal.returns-then-at-eq0
returns-then-at-eq0 c =
    let t = c.if-at-eq0.true in
    let two = has_two_bands c.args.shared.now.config in
    let e : c.args.at ≡ 2 * (c.args.at / 2) = omega arith in
    sym (ap (λ (n : ℕ). is_used two n) e ∙ used_low two (c.args.at / 2))

pub returns : goal.returns
returns c =
    let t = c.if-at-eq0.false in
    let two = has_two_bands c.args.shared.now.config in
    let e : c.args.at ≡ 2 * (c.args.at / 2) + 1 = omega arith in
    c.two_bands.ensures c.args.shared.now.config c.args.shared.now.of ∙ ap two c.of-link.ensures ∙ sym (ap (λ (n : ℕ). is_used two n) e ∙ used_high two (c.args.at / 2))
