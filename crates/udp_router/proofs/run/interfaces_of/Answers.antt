use Rattle.router_rules.specs.Links.{interface_at, link_count}
use Rattle.udp_router.proofs.Devices.{all_there, one_more}
use Rattle.udp_router.proofs.run.interfaces_of.Goals as goal

pub loop-index-preserved : goal.loop-index-preserved
loop-index-preserved c =
    one_more (interface_at c.args.config.now) c.push.new.self.items c.loop-index.interfaces.items c.interface_at.result c.loop-index.index c.loop-index.invariant c.interface_at.ensures
    c.in_ok-push.ensures.items

pub returns : goal.returns
returns c =
    all_there (interface_at c.args.config.now) c.loop-index.interfaces.items c.loop-index.index c.link_count-index-end.result (link_count c.args.config.now) c.loop-index.invariant
    c.loop-index.auto.index-end c.loop-index-test.false c.link_count-index-end.ensures.count
