use Rattle.std.proofs.Common.{◌≡◌, ◌<◌, ◌∙◌, ℕ, ap, rules, map}
use Rattle.std.specs.List.{range_with_len}
use Rattle.router_rules.specs.Links.{link_count}
use Rattle.udp_devices.specs.Binding.{sink_at, source_at}
use Rattle.udp_devices.specs.Ends.{ends_of}
use Rattle.udp_devices.specs.declared.ends.Ends.{Ends}
use Rattle.udp_devices.proofs.Bound.{all_bound, one_more}
use Rattle.udp_devices.proofs.binding.bind_links.Goals as goal

pub loop-index-preserved : goal.loop-index-preserved
loop-index-preserved g c =
    let here = c.ends_of.ensures ∙ ap (ends_of c.args.config.now) c.interface_at-interface.ensures in
    let from : c.in-Ok.source ≡ source_at c.args.config.now c.loop-index.index = c.in-Ok.ensures.0 ∙ ap (λ (ends : Ends). record { local = ends.local; failed = 0 }) here in
    let at : c.in-Ok.sink ≡ sink_at c.args.config.now c.loop-index.index =
    c.in-Ok.ensures.1 ∙ ap (λ (ends : Ends). record { ends = ends; failed = 0 }) here in (
      one_more (source_at c.args.config.now) c.push.new.self.items c.loop-index.sources.items c.in-Ok.source c.loop-index.index c.loop-index.invariant.0 from (c.in_ok-push.ensures.items),
      one_more (sink_at c.args.config.now) c.push-in-loop-index.new.self.items c.loop-index.sinks.items c.in-Ok.sink c.loop-index.index c.loop-index.invariant.1 at (c.in_ok-push-2.ensures.items),
    )

pub returns-clause-sources : goal.returns-clause-sources
returns-clause-sources g c =
    all_bound (λ (n : ℕ). map (source_at c.args.config.now) (range_with_len 0 n)) c.loop-index.sources.items c.loop-index.index c.link_count-count.result (link_count c.args.config.now) c.loop-index.invariant.0 c.loop-index.auto.index-end
    c.loop-index-test.false c.link_count-count.ensures.count

pub returns-clause-sinks : goal.returns-clause-sinks
returns-clause-sinks g c =
    all_bound (λ (n : ℕ). map (sink_at c.args.config.now) (range_with_len 0 n)) c.loop-index.sinks.items c.loop-index.index c.link_count-count.result (link_count c.args.config.now)
    c.loop-index.invariant.1 c.loop-index.auto.index-end c.loop-index-test.false c.link_count-count.ensures.count

pub returns-in_default-clause-fault : goal.returns-in_default-clause-fault
returns-in_default-clause-fault g c =
    let there : c.loop-index.index < link_count c.args.config.now = search rules in
    (c.loop-index.index, there, c.interface_at-interface.ensures)
