use Rattle.std.proofs.Common.{◌<◌, ◌+◌, ◌*◌, ◌∙◌, ◌&&◌, Bool, length, ap, sym, subst, arith}
use Rattle.std.proofs.lemmas.Bool.{lt-ltb}
use Rattle.router_rules.specs.Links.{has_two_bands}
use Rattle.worker_parts.specs.Outlets.{Trying, is_used}
use Rattle.worker_parts.proofs.EndLemmas.{trying_as}
use Rattle.worker_processor.proofs.UsedLemmas.{used_to, link_more}
use Rattle.worker_processor.proofs.exits.end_links.Goals as goal

pub loop-link-preserved : goal.loop-link-preserved
loop-link-preserved g c =
    let h = c.args.shared.now in
    let two = has_two_bands h.config in
    let l = c.loop-link.link in
    let old = c.args.ends.now.items in
    let now = c.loop-link.ends.items in
    let new = c.end_link-there.new.ends.items in
    let count = c.count-link-end.ensures h.config h.of in
    let here : 2 * l + 1 < length now = let t = c.loop-link-test.true in let r = c.requires in let long = c.loop-link.invariant.tried.0 in omega arith in
    let next = link_more two l old now new c.loop-link.all c.end_link-there.result here c.two_bands.result (c.two_bands.ensures h.config h.of ∙ ap two c.of.ensures) c.end_link-there.ensures c.loop-link.invariant in
    subst (λ (b : Bool). Trying (used_to two (l + 1)) old new b) (sym c.are_both-all.ensures) next

pub returns : goal.returns
returns g c =
    let h = c.args.shared.now in
    let two = has_two_bands h.config in
    let count = c.count-link-end.ensures h.config h.of in
    trying_as (used_to two c.loop-link.link) (is_used two) c.args.ends.now.items c.loop-link.ends.items c.loop-link.all
    (λ j lt. ap (λ (b : Bool). b && is_used two j) (lt-ltb j (2 * c.loop-link.link) (let t = c.loop-link-test.false in let r = c.requires in omega arith))) c.loop-link.invariant
