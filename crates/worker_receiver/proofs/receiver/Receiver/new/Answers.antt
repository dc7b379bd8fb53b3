use Rattle.std.proofs.Common.{◌≡◌, ℕ, Option, sym, ap, subst, ◌∙◌}
use Rattle.std.specs.Arc.{arc_value}
use Rattle.process_packet.specs.declared.config.Config.{Config}
use Rattle.router_rules.specs.Links.{interface_at, link_index}
use Rattle.router_rules.specs.Ports.{IsPortsOf}
use Rattle.router_rules.specs.declared.shared.Shared.{Shared}
use Rattle.worker_parts.specs.Items.{StandsIn}
use Rattle.worker_receiver.specs.Pool.{Stock}
use Rattle.worker_receiver.proofs.ReceivingLemmas.{keeps_first}
use Rattle.worker_receiver.proofs.receiver.Receiver.new.Goals as goal

pub invariant_of-intake : goal.invariant_of-intake
invariant_of-intake g c =
    let h = arc_value c.args.shared in
    let id = c.interface-interface.result in
    let ports = subst (λ (s : Shared). IsPortsOf s.config c.deref.result.now.ports) c.deref.ensures c.deref.result.now.of in
    let at : id ≡ interface_at h.config c.args.link = c.interface-interface.ensures h.config ports in
    let numbered : link_index h.config id ≡ c.args.link = ap (λ (i : ℕ). link_index h.config i) at ∙ (c.links_stand_in_order.ensures h.config).numbered c.args.link c.requires.link in (
      c.requires.config,
      subst (λ (o : Option Config). StandsIn o c.args.link id) (sym c.requires.config) (numbered, c.requires.link),
      c.requires.processors.0,
    )

pub invariant_of-result : goal.invariant_of-result
invariant_of-result g c =
    keeps_first (g.S.Source.told c.args.source) (record { config = (arc_value c.args.shared).config; link = c.args.link; interface = c.interface-interface.result; stock = c.new-pool.result.stock; processors = c.args.processors.items; share = c.args.share })
    (ap (λ (s : Stock). s.free.looks) c.new-pool.ensures ∙ c.requires.free) c.requires.share c.requires.processors.1 c.requires.untold
