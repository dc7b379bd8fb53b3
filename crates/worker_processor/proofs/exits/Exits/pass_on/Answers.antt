use Rattle.std.proofs.Common.{◌≡◌, ◌<◌, ◌∙◌, ℕ, List, Option, Some, refl, ap, ap₂, sym, subst}
use Rattle.std.specs.Arc.{arc_value}
use Rattle.order_laws.specs.Item.{Arrival, Outgoing}
use Rattle.order_laws.specs.Rules.{Decision, Sends, Asks, Drops}
use Rattle.order_laws.specs.Settled.{SlowPathRequest}
use Rattle.process_packet.specs.declared.config.Config.{Config}
use Rattle.process_packet.specs.declared.decision.Decision.{Decision as Decided}
use Rattle.router_rules.specs.Datagram.{Parcel}
use Rattle.router_rules.specs.Links.{link_count, link_index}
use Rattle.router_rules.specs.Rules.{Arrives, by_decision, decided, kinds}
use Rattle.router_rules.specs.declared.shared.Shared.{Shared}
use Rattle.worker_parts.specs.Items.{StandsIn, asking, leaving, with_bytes}
use Rattle.worker_parts.specs.Outlet.{Offering}
use Rattle.worker_processor.specs.Exits.{Leaving, DroppedAs, SentAs}
use Rattle.worker_processor.specs.Working.{After, AskedAs, PassedOn, out}
use Rattle.worker_processor.proofs.exits.Exits.pass_on.Goals as goal

-- what is passed on, by what is decided
passed_as : (x : Arrival kinds) (old new : Leaving) (slow slow' : Offering (SlowPathRequest kinds)) (d : Decision kinds) → decided old.config x.datagram ≡ d → After d x old new slow slow' → PassedOn x old new slow slow'
passed_as x old new slow slow' d is after = subst (λ (e : Decision kinds). After e x old new slow slow') (sym is) after

-- what is decided of a configuration that is shared
decided_as : (h k : Shared) (r : Config) (x : Arrival kinds) (d e : Decided) (bytes : List ℕ) → h ≡ k → k.config ≡ r → by_decision h.config x.datagram.interface d bytes ≡ decided h.config x.datagram → d ≡ e → decided r x.datagram ≡ by_decision r x.datagram.interface e bytes
decided_as h k r x d e bytes same config is which =
    let P : Config → Type 0 = λ c. by_decision c x.datagram.interface d bytes ≡ decided c x.datagram in
    let at : by_decision r x.datagram.interface d bytes ≡ decided r x.datagram = subst P (ap (λ (s : Shared). s.config) same ∙ config) is in
    sym at ∙ ap (λ (f : Decided). by_decision r x.datagram.interface f bytes) which

-- the number of a link of a configuration that is shared
number_as : (h k : Shared) (r : Config) (n id : ℕ) → h ≡ k → k.config ≡ r → n ≡ link_index h.config id → n ≡ link_index r id
number_as h k r n id same config is = is ∙ ap (λ (c : Config). link_index c id) (ap (λ (s : Shared). s.config) same ∙ config)

stands_as : (o : Option Config) (r : Config) (x : Arrival kinds) → o ≡ Some r → StandsIn o x.link x.datagram.interface → Arrives r x
stands_as o r x e s = subst (λ (z : Option Config). StandsIn z x.link x.datagram.interface) e s

pub send-requires-clause-link : goal.send-requires-clause-link
send-requires-clause-link g c =
    let x = c.args.packet in
    let h = arc_value c.self.inside.shared in
    let r = c.args.self.now.config in
    let same : h.config ≡ r = ap (λ (l : Leaving). l.config) c.self.view_is in
    let b = c.decide.new.self.datagram.bytes in
    let sends = decided_as c.deref.result.now h r x c.decide.result _ b c.deref.ensures same c.decide.ensures.decided c.in-Send.is in
    let there : link_index r c.in-Send.link < link_count r =
    (c.rules_are_lawful.ensures r).sends x (link_index r c.in-Send.link) (record { came_by = x.datagram.interface; to = c.in-Send.to; bytes = b }) (stands_as _ r x (c.self.invariant.0 ∙ ap Some same) c.link-link.ensures.stands) sends in
    let n = number_as c.deref-in-Send.result.now h r c.index-link.result c.in-Send.link c.deref-in-Send.ensures same (c.index-link.ensures c.deref-in-Send.result.now.config c.deref-in-Send.result.now.of ∙ ap (link_index c.deref-in-Send.result.now.config) c.of.ensures) in
    subst (λ (k : ℕ). k < link_count r) (sym (ap (λ (o : Outgoing kinds). o.link) c.into_egress_packet.ensures ∙ n)) there

pub returns-in-Send-clause-passed : goal.returns-in-Send-clause-passed
returns-in-Send-clause-passed g c =
    let x = c.args.packet in
    let h = arc_value c.self.inside.shared in
    let r = c.args.self.now.config in
    let same : h.config ≡ r = ap (λ (l : Leaving). l.config) c.self.view_is in
    let b = c.decide.new.self.datagram.bytes in
    let l = link_index r c.in-Send.link in
    let y : Parcel = record { came_by = x.datagram.interface; to = c.in-Send.to; bytes = b } in
    let sends = decided_as c.deref.result.now h r x c.decide.result _ b c.deref.ensures same c.decide.ensures.decided c.in-Send.is in
    let n = number_as c.deref-in-Send.result.now h r c.index-link.result c.in-Send.link c.deref-in-Send.ensures same (c.index-link.ensures c.deref-in-Send.result.now.config c.deref-in-Send.result.now.of ∙ ap (link_index c.deref-in-Send.result.now.config) c.of.ensures) in
    let is : c.into_egress_packet.result ≡ out x l y = c.into_egress_packet.ensures ∙ ap₂ (λ (p : Arrival kinds) (k : ℕ). leaving p k c.in-Send.to) c.decide.ensures.kept n in
    passed_as x c.args.self.now c.send.new.self c.args.slow.now c.args.slow.now (Sends l y) sends (subst (λ (o : Outgoing kinds). SentAs o c.args.self.now c.send.new.self) is c.send.ensures, refl)

pub returns-in-Answer-clause-passed : goal.returns-in-Answer-clause-passed
returns-in-Answer-clause-passed g c =
    let x = c.args.packet in
    let h = arc_value c.self.inside.shared in
    let r = c.args.self.now.config in
    let same : h.config ≡ r = ap (λ (l : Leaving). l.config) c.self.view_is in
    let b = c.decide.new.self.datagram.bytes in
    let p = c.in-Answer.problem in
    let asks = decided_as c.deref.result.now h r x c.decide.result _ b c.deref.ensures same c.decide.ensures.decided c.in-Answer.is in
    let sound = c.decide.ensures.sound p c.in-Answer.is in
    let packet : c.decide.new.self ≡ x = c.decide.ensures.kept ∙ ap (λ (t : List ℕ). with_bytes t x) sound.1 in
    let is : c.into_request.result ≡ asking x p = c.into_request.ensures ∙ ap (λ (q : Arrival kinds). asking q p) packet in
    passed_as x c.args.self.now c.ask.new.self c.args.slow.now c.ask.new.slow (Asks p) asks (subst (λ (q : SlowPathRequest kinds). AskedAs q c.args.self.now c.ask.new.self c.args.slow.now c.ask.new.slow) is c.ask.ensures)

pub returns-in-Drop-clause-passed : goal.returns-in-Drop-clause-passed
returns-in-Drop-clause-passed g c =
    let x = c.args.packet in
    let h = arc_value c.self.inside.shared in
    let r = c.args.self.now.config in
    let same : h.config ≡ r = ap (λ (l : Leaving). l.config) c.self.view_is in
    let b = c.decide.new.self.datagram.bytes in
    let drops = decided_as c.deref.result.now h r x c.decide.result _ b c.deref.ensures same c.decide.ensures.decided c.in-Drop.is in
    passed_as x c.args.self.now c.drop_for.new.self c.args.slow.now c.args.slow.now (Drops c.in-Drop.why) drops (subst (λ (k : ℕ). DroppedAs k c.in-Drop.why c.args.self.now c.drop_for.new.self) c.link-link.ensures.link c.drop_for.ensures, refl)
