use Rattle.std.proofs.Common.{◌<◌, ◌∙◌, length, ap, subst, sym, arith}
use Rattle.std.specs.Arc.{arc_value}
use Rattle.packet_ledger.specs.Share.{Held}
use Rattle.router_rules.specs.Links.{link_count}
use Rattle.worker_processor.specs.Exits.{Leaving, DroppedAs}
use Rattle.worker_parts.proofs.BackLemmas.{back_long}
use Rattle.worker_processor.proofs.exits.Exits.drop_for.Goals as goal

pub invariant_of-self : goal.invariant_of-self
invariant_of-self g c =
    let inv = c.self.invariant in
    let below : c.args.link < link_count (arc_value c.self.inside.shared).config = subst (λ (l : Leaving). c.args.link < link_count l.config) (sym c.self.view_is) c.requires.there in
    let there : c.args.link < length c.self.inside.free.items = let n = inv.2 in omega arith in
    (inv.0, inv.1, back_long c.args.link c.args.buffer c.self.inside.free.items c.give_back.new.free.items there c.give_back.ensures ∙ inv.2)

pub returns : goal.returns
returns g c =
    let s = c.self.inside in
    let after : Held → Leaving = λ share. record { config = (arc_value s.shared).config; links = s.links.items; free = c.give_back.new.free.items; share = share } in
    subst (λ (l : Leaving). DroppedAs c.args.link c.args.cause l (after c.fate.new.self)) c.self.view_is ((c.args.buffer, c.give_back.ensures), ap after c.fate.ensures)
