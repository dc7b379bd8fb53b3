use Rattle.std.proofs.Common.{◌≡◌, ◌<◌, ◌∙◌, false, sym, arith}
use Rattle.router_rules.specs.Links.{has_two_bands, interface_at}
use Rattle.router_rules.proofs.PortLemmas.{of_table, one_more}
use Rattle.router_rules.proofs.ports.Ports.of.Goals as goal

pub loop-link-preserved : goal.loop-link-preserved
loop-link-preserved c =
    let below : c.loop-link.link < 33 = omega (arith, c.loop-link-test.true, c.link_count-count.ensures.few) in
    let config = c.args.config.now in (
      one_more 33 c.loop-link.link (interface_at config) 0 c.interface_at.result c.loop-link.interfaces below c.interface_at.ensures c.loop-link.invariant.0,
      one_more 33 c.loop-link.link (has_two_bands config) false c.has_two_bands.result c.loop-link.two_bands below c.has_two_bands.ensures c.loop-link.invariant.1,
    )

pub returns : goal.returns
returns c =
    let count = c.link_count-count.result in
    let done : c.loop-link.link ≡ count = omega (arith, c.loop-link-test.false, c.loop-link.auto.link-end) in
    rw (sym done) (of_table c.args.config.now c.loop-link.interfaces c.loop-link.two_bands c.loop-link.link 33 (done ∙ c.link_count-count.ensures.count) (omega (arith, done, c.link_count-count.ensures.few)) c.loop-link.invariant.0 c.loop-link.invariant.1)
