use Rattle.std.proofs.Common.{◌≡◌, ℕ, ◌++◌, rules, arith, ap, ◌∙◌}
use Rattle.std.specs.List.{flat_map, range_with_len}
use Rattle.router_rules.specs.Links.{link_count}
use Rattle.cli_replay.specs.Report.{link_line, link_text}
use Rattle.cli_io.proofs.ReportLemmas.{one_more_line}
use Rattle.cli_replay.proofs.report.push_links.Goals as goal

pub loop-index-preserved : goal.loop-index-preserved
loop-index-preserved c =
    let line : link_text c.interface_at-link.result c.sent.result.now ≡ link_line c.args.world.now c.loop-index.index = search rules in
    let wrote : c.push_link.new.text.items ≡ c.loop-index.text.items ++ link_text c.interface_at-link.result c.sent.result.now = search rules in
    one_more_line (link_line c.args.world.now) c.args.text.now.items c.loop-index.text.items c.push_link.new.text.items (link_text c.interface_at-link.result c.sent.result.now) c.loop-index.index
    c.loop-index.invariant line wrote

pub returns : goal.returns
returns c =
    let p = c.args.world.now in
    let count : c.link_count-index-end.result ≡ link_count p.config = c.link_count-index-end.ensures.count ∙ ap link_count c.config-config.ensures in
    let last : c.loop-index.index ≡ c.link_count-index-end.result = omega arith in
    c.loop-index.invariant ∙ ap (λ (k : ℕ). c.args.text.now.items ++ flat_map (link_line p) (range_with_len 0 k)) (last ∙ count)

pub loop-index-init : goal.loop-index-init
loop-index-init c = search rules
