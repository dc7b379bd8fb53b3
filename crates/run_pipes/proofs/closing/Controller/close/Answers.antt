use Rattle.std.proofs.Common.{◌≡◌, ◌*◌, ◌≤◌, refl, sym, ◌∙◌, ap, arith}
use Rattle.std.specs.Arc.{arc_value}
use Rattle.router_rules.specs.Links.{link_count, link_index}
use Rattle.router_rules.specs.declared.shared.Shared.{Shared}
use Rattle.worker_parts.specs.Outlets.{are_used}
use Rattle.run_pipes.proofs.ClosingLemmas.{no_link}
use Rattle.run_pipes.proofs.closing.Controller.close.Goals as goal

pub returns-then-place-count-clause-closing : goal.returns-then-place-count-clause-closing
returns-then-place-count-clause-closing g c =
    let config = (arc_value c.args.self.now.shared).config in
    let id = c.args.interface in
    let first = c.deref.result.now in
    let second = c.deref-2.result.now in
    let index : c.index-link.result ≡ link_index config id = c.index-link.ensures first.config first.of ∙ ap (link_index first.config) c.of.ensures ∙ ap (λ (s : Shared). link_index s.config id) c.deref.ensures in
    let count : c.count.result ≡ link_count config = c.count.ensures second.config second.of ∙ ap (λ (s : Shared). link_count s.config) c.deref-2.ensures in
    let none : link_count config ≤ link_index config id = let p = c.place.ensures in let t = c.if-place-count.true in omega arith in
    (no_link config id none, refl)

pub close_both-closed-requires-clause-count : goal.close_both-closed-requires-clause-count
close_both-closed-requires-clause-count g c = c.requires.count ∙ ap (λ (s : Shared). 2 * link_count s.config) (sym c.deref-3.ensures)

pub close_both-closed-requires-clause-used : goal.close_both-closed-requires-clause-used
close_both-closed-requires-clause-used g c =
    λ j d lt. c.requires.used j d lt ∙ ap (λ (s : Shared). are_used s.config j) (sym c.deref-3.ensures)
