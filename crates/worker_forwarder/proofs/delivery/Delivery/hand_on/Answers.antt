use Rattle.std.proofs.Common.{rules, ◌<◌, ◌∙◌, Option, length, subst, arith}
use Rattle.process_packet.specs.declared.config.Config.{Config}
use Rattle.worker_parts.specs.GivingBack.{GaveBack}
use Rattle.worker_parts.specs.Items.{StandsIn}
use Rattle.worker_parts.proofs.BackLemmas.{back_long}
use Rattle.worker_forwarder.specs.Forwarding.{Delivery}
use Rattle.worker_forwarder.proofs.delivery.Delivery.hand_on.Goals as goal

pub invariant_of-self : goal.invariant_of-self
invariant_of-self g c =
    let inv = c.self.invariant in
    let stands = subst (λ (o : Option Config). StandsIn o c.args.egress_packet.arrived c.args.egress_packet.parcel.came_by) inv.0 c.arrived-link.ensures.stands in
    let there : c.arrived-link.result < length c.self.inside.free.items = let n = inv.1 in let l = stands.1 in let a = c.arrived-link.ensures.arrived in omega arith in
    (inv.0, back_long c.arrived-link.result c.into_buffer.result c.self.inside.free.items c.give_back.new.free.items there c.give_back.ensures ∙ inv.1)

pub returns : goal.returns
returns g c =
    let taken_back = subst (λ (d : Delivery g.row.K.Denot). GaveBack c.args.egress_packet.arrived c.into_buffer.result d.free c.give_back.new.free.items) c.self.view_is
    (rw c.arrived-link.ensures.arrived at c.give_back.ensures) in
    (c.is_ok-took.result, search rules, search rules, (c.into_buffer.result, taken_back), search rules, search rules)
