use Rattle.std.proofs.Common.{◌≡◌, ◌<◌, ◌∙◌, Option, length, ap, subst, sym, arith, rules}
use Rattle.std.specs.Arc.{arc_value}
use Rattle.packet_ledger.specs.Share.{MayRaise}
use Rattle.process_packet.specs.declared.cause.Cause.TheVariants as cause
use Rattle.process_packet.specs.declared.config.Config.{Config}
use Rattle.router_rules.specs.Links.{link_count}
use Rattle.router_rules.specs.declared.shared.Shared.{Shared}
use Rattle.worker_parts.specs.Items.{StandsIn}
use Rattle.worker_parts.specs.Outlets.{GaveAt}
use Rattle.worker_parts.proofs.EndLemmas.{gave_long, kept_long}
use Rattle.worker_processor.specs.Exits.{Leaving, SentAs, pipe_for}
use Rattle.worker_parts.proofs.BackLemmas.{back_long}
use Rattle.worker_processor.proofs.ExitsLemmas.{pipe_below, sent_not}
use Rattle.worker_processor.proofs.exits.Exits.send.Goals as goal

pub fate-requires : goal.fate-requires
fate-requires g c = (subst (λ (l : Leaving). MayRaise l.share.counts) (sym c.self.view_is) c.requires.room).3 cause.LinkFull

pub invariant_of-self : goal.invariant_of-self
invariant_of-self g c =
    let inv = c.self.invariant in
    let s = c.self.inside in
    let r = (arc_value s.shared).config in
    let lt : c.args.egress_packet.link < link_count r = subst (λ (l : Leaving). c.args.egress_packet.link < link_count l.config) (sym c.self.view_is) c.requires.link in
    let at : c.pipe_for-at.result ≡ pipe_for r c.args.egress_packet = c.pipe_for-at.ensures ∙ ap (λ (h : Shared). pipe_for h.config c.args.egress_packet) c.deref.ensures in
    let here = pipe_below r c.args.egress_packet c.pipe_for-at.result (length s.links.items) lt at inv.1 in
    let stands = subst (λ (o : Option Config). StandsIn o c.in-Err.egress_packet.arrived c.in-Err.egress_packet.parcel.came_by) inv.0 c.arrived-link.ensures.stands in
    let there : c.arrived-link.result < length s.free.items = let n = inv.2 in let l = stands.1 in let a = c.arrived-link.ensures.arrived in omega arith in
    (inv.0, kept_long c.pipe_for-at.result c.args.egress_packet s.links.items c.offer_at.new.ends.items here c.in-Err.ensures.1 ∙ inv.1, back_long c.arrived-link.result c.into_buffer.result s.free.items c.give_back.new.free.items there c.give_back.ensures ∙ inv.2)

pub invariant_of-self-in_default : goal.invariant_of-self-in_default
invariant_of-self-in_default g c =
    let inv = c.self.invariant in
    let s = c.self.inside in
    let r = (arc_value s.shared).config in
    let lt : c.args.egress_packet.link < link_count r = subst (λ (l : Leaving). c.args.egress_packet.link < link_count l.config) (sym c.self.view_is) c.requires.link in
    let at : c.pipe_for-at.result ≡ pipe_for r c.args.egress_packet = c.pipe_for-at.ensures ∙ ap (λ (h : Shared). pipe_for h.config c.args.egress_packet) c.deref.ensures in
    let here = pipe_below r c.args.egress_packet c.pipe_for-at.result (length s.links.items) lt at inv.1 in
    let gave : GaveAt c.pipe_for-at.result c.args.egress_packet s.links.items c.offer_at.new.ends.items = c.in_default.ensures in
    (inv.0, gave_long c.pipe_for-at.result c.args.egress_packet s.links.items c.offer_at.new.ends.items here gave ∙ inv.1, inv.2)

pub returns-in-Err : goal.returns-in-Err
returns-in-Err g c =
    let s = c.self.inside in
    let r = (arc_value s.shared).config in
    let at : c.pipe_for-at.result ≡ pipe_for r c.args.egress_packet = c.pipe_for-at.ensures ∙ ap (λ (h : Shared). pipe_for h.config c.args.egress_packet) c.deref.ensures in
    subst (λ (l : Leaving). SentAs c.args.egress_packet l (record { config = r; links = c.offer_at.new.ends.items; free = c.give_back.new.free.items; share = c.fate.new.self })) c.self.view_is
    (sent_not r s.links.items c.offer_at.new.ends.items s.free.items c.give_back.new.free.items s.share c.fate.new.self c.args.egress_packet c.in-Err.egress_packet c.pipe_for-at.result c.arrived-link.result at c.in-Err.ensures.1 c.in-Err.ensures.0 c.arrived-link.ensures.arrived c.into_buffer.result c.give_back.ensures c.fate.ensures)

pub returns-in_default : goal.returns-in_default
returns-in_default g c = search rules
