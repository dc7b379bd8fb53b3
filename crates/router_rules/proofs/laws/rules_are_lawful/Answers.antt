use Rattle.router_rules.proofs.Lawful.{are_lawful}
use Rattle.router_rules.proofs.laws.rules_are_lawful.Goals as goal

pub returns : goal.returns
returns c = are_lawful c.only_lawful_ways.ensures c.nothing_else_changes.ensures c.one_hops_leave.ensures c.one_hops_enter.ensures c.one_hops_keep_the_rest.ensures
    c.decided_by_kind.ensures
