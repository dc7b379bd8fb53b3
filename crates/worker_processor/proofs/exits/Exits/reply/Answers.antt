use Rattle.std.proofs.Common.{◌≡◌, ◌<◌, ◌∙◌, ℕ, Option, Some, refl, ap, sym, subst}
use Rattle.std.specs.Arc.{arc_value}
use Rattle.order_laws.specs.Item.{Outgoing}
use Rattle.order_laws.specs.Rules.{Reply, Replies, Withholds}
use Rattle.order_laws.specs.Settled.{SlowPathRequest}
use Rattle.process_packet.specs.declared.config.Config.{Config}
use Rattle.router_rules.specs.Datagram.{Parcel}
use Rattle.router_rules.specs.Links.{link_count}
use Rattle.router_rules.specs.Rules.{Arrives, kinds, replied}
use Rattle.router_rules.specs.declared.shared.Shared.{Shared}
use Rattle.router_rules.proofs.ReplyLemmas.{answer_leaves_by}
use Rattle.worker_laws.specs.Answers.{answer_to}
use Rattle.worker_parts.specs.Items.{StandsIn}
use Rattle.worker_processor.specs.Exits.{Leaving, DroppedAs, SentAs}
use Rattle.worker_processor.specs.Answering.{AfterReply, RepliedTo}
use Rattle.worker_processor.proofs.exits.Exits.reply.Goals as goal

-- the reply under a configuration that is shared
replied_as : (h k : Shared) (c : Config) (q : SlowPathRequest kinds) (r s : Reply kinds) → h ≡ k → k.config ≡ c → r ≡ replied h.config q.arrival.datagram q.problem → r ≡ s → replied c q.arrival.datagram q.problem ≡ s
replied_as h k c q r s same config is which = sym (is ∙ ap (λ (d : Config). replied d q.arrival.datagram q.problem) (ap (λ (x : Shared). x.config) same ∙ config)) ∙ which

after_as : (q : SlowPathRequest kinds) (old new : Leaving) (r : Reply kinds) → replied old.config q.arrival.datagram q.problem ≡ r → AfterReply r q old new → RepliedTo q old new
after_as q old new r is after = subst (λ (s : Reply kinds). AfterReply s q old new) (sym is) after

-- an answer leaves by the link by which its packet came
link_as : (o : Option Config) (c : Config) (q : SlowPathRequest kinds) (l : ℕ) (y : kinds.Parcel) → o ≡ Some c → StandsIn o q.arrival.link q.arrival.datagram.interface → replied c q.arrival.datagram q.problem ≡ Replies l y → l < link_count c
link_as o c q l y config stands is =
    let arrives : Arrives c q.arrival = subst (λ (z : Option Config). StandsIn z q.arrival.link q.arrival.datagram.interface) config stands in
    subst (λ (k : ℕ). k < link_count c) (sym (answer_leaves_by c q.arrival.datagram q.problem l y is ∙ arrives.0)) arrives.1

pub send-requires-clause-link : goal.send-requires-clause-link
send-requires-clause-link g c =
    let h = arc_value c.self.inside.shared in
    let same : h.config ≡ c.args.self.now.config = ap (λ (l : Leaving). l.config) c.self.view_is in
    let is = replied_as c.deref.result.now h c.args.self.now.config c.args.request _ (Replies c.in-Ok.answer.link c.in-Ok.answer.parcel) c.deref.ensures same c.in-Ok.ensures.replied refl in
    link_as _ c.args.self.now.config c.args.request c.in-Ok.answer.link c.in-Ok.answer.parcel (c.self.invariant.0 ∙ ap Some same) c.link-link.ensures.stands is

pub returns-in-Ok-clause-replied : goal.returns-in-Ok-clause-replied
returns-in-Ok-clause-replied g c =
    let h = arc_value c.self.inside.shared in
    let o = c.in-Ok.answer in
    let same : h.config ≡ c.args.self.now.config = ap (λ (l : Leaving). l.config) c.self.view_is in
    let is = replied_as c.deref.result.now h c.args.self.now.config c.args.request _ (Replies o.link o.parcel) c.deref.ensures same c.in-Ok.ensures.replied refl in
    let named : o ≡ answer_to c.args.request o.link o.parcel = c.in-Ok.ensures.named ∙ ap (λ (y : Parcel). answer_to c.args.request o.link y) (sym (ap (λ (p : Outgoing kinds). p.parcel) c.in-Ok.ensures.named)) in
    after_as c.args.request c.args.self.now c.send.new.self (Replies o.link o.parcel) is (subst (λ (p : Outgoing kinds). SentAs p c.args.self.now c.send.new.self) named c.send.ensures)

pub returns-in-Err-clause-replied : goal.returns-in-Err-clause-replied
returns-in-Err-clause-replied g c =
    let h = arc_value c.self.inside.shared in
    let same : h.config ≡ c.args.self.now.config = ap (λ (l : Leaving). l.config) c.self.view_is in
    let is = replied_as c.deref.result.now h c.args.self.now.config c.args.request _ (Withholds c.in-Err.field-0.cause) c.deref.ensures same c.in-Err.ensures.replied refl in
    after_as c.args.request c.args.self.now c.drop_for.new.self (Withholds c.in-Err.field-0.cause) is (subst (λ (k : ℕ). DroppedAs k c.in-Err.field-0.cause c.args.self.now c.drop_for.new.self) c.link-link.ensures.link c.drop_for.ensures)
