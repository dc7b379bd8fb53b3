use Rattle.std.proofs.Common.{◌≡◌, ◌∙◌, ◌+◌, ◌*◌, ◌<◌, length, sym, ap, arith}
use Rattle.router_rules.specs.Links.{has_two_bands}
use Rattle.worker_parts.proofs.UsedLemmas.{used_high, used_low}
use Rattle.run_pipes.proofs.closing.close_both.Goals as goal

pub close_double-requires-clause-used : goal.close_double-requires-clause-used
close_double-requires-clause-used g c =
    let shared = c.args.shared.now.config in
    let low = 2 * c.place-low.result in
    let lt : low < length c.args.shutters.now.items = let t = c.requires.there in let n = c.requires.count in let f = c.place-low.ensures in omega arith in
    λ d. c.requires.used low d lt ∙ used_low (has_two_bands shared) c.place-low.result

pub close_double-requires-clause-high_used : goal.close_double-requires-clause-high_used
close_double-requires-clause-high_used g c =
    let shared = c.args.shared.now.config in
    let high = 2 * c.place-low.result + 1 in
    let lt : high < length c.args.shutters.now.items = let t = c.requires.there in let n = c.requires.count in let f = c.place-low.ensures in omega arith in
    let two = sym (c.two_bands.ensures shared c.args.shared.now.of) ∙ c.if-two_bands.true in
    let same : c.place-low.result ≡ c.args.link = let f = c.place-low.ensures in omega arith in
    λ d. c.requires.used high d lt ∙ (used_high (has_two_bands shared) c.place-low.result ∙ (ap (has_two_bands shared) same ∙ two))

pub close_single-requires-clause-used : goal.close_single-requires-clause-used
close_single-requires-clause-used g c =
    let shared = c.args.shared.now.config in
    let low = 2 * c.place-low.result in
    let lt : low < length c.args.shutters.now.items = let t = c.requires.there in let n = c.requires.count in let f = c.place-low.ensures in omega arith in
    λ d. c.requires.used low d lt ∙ used_low (has_two_bands shared) c.place-low.result
