use Rattle.std.proofs.Common.{◌≡◌, sym, ◌∙◌, ap, subst}
use Rattle.std.specs.Arc.{arc_value}
use Rattle.process_packet.specs.declared.config.Config.{Config}
use Rattle.router_rules.specs.declared.shared.Shared.{Shared}
use Rattle.run_pipes.specs.Closing.{Closing}
use Rattle.router_run.specs.Prepared.{IsRunning}
use Rattle.router_run.specs.Run.{Run}
use Rattle.run_report.specs.Crew.{crew_of}
use Rattle.router_run.proofs.CrewLemmas.{controller_long, controller_used, crew_after}
use Rattle.router_run.proofs.running.Running.close_link.Goals as goal

pub close-requires-clause-count : goal.close-requires-clause-count
close-requires-clause-count g c = controller_long _ _ _ _ _ _ c.self.inside.controller.shutters.items c.self.invariant.1

pub close-requires-clause-used : goal.close-requires-clause-used
close-requires-clause-used g c = λ j d lt. controller_used _ _ _ _ _ _ c.self.inside.controller.shutters.items c.self.invariant.1 j d lt

pub close-requires-clause-unended : goal.close-requires-clause-unended
close-requires-clause-unended g c = c.self.invariant.1.unended

pub invariant_of-self : goal.invariant_of-self
invariant_of-self g c =
    let old = c.self.inside in
    let new = c.close.new.self in
    let value : arc_value new.shared ≡ arc_value old.controller.shared = ap arc_value c.close.ensures.shared in
    let was = c.self.invariant in
    let crew = crew_of old.threads.receivers old.threads.processors old.threads.slow.promise.0.value old.threads.forwarders new.shutters.items in
    subst (λ (k : Config). IsRunning g.N.RunBrand.workers k old.pipes crew old.space) (sym (ap (λ (s : Shared). s.config) value))
    (was.0, crew_after _ _ _ _ _ _ old.controller.shutters.items new.shutters.items was.1 c.close.ensures.stay, was.2, was.3)

pub returns-clause-closing : goal.returns-clause-closing
returns-clause-closing g c = subst (λ (r : Run _ _ _). Closing r.config c.args.link c.close.result r.crew.shutters c.close.new.self.shutters.items) c.self.view_is c.close.ensures.closing

pub returns-clause-same : goal.returns-clause-same
returns-clause-same g c =
    let value : arc_value c.close.new.self.shared ≡ arc_value c.self.inside.controller.shared = ap arc_value c.close.ensures.shared in
    let is = c.self.view_is in
    record {
      config = ap (λ (s : Shared). s.config) value ∙ ap (λ (r : Run _ _ _). r.config) is;
      pipes = ap (λ (r : Run _ _ _). r.pipes) is;
      fillers = ap (λ (r : Run _ _ _). r.fillers) is;
      receivers = ap (λ (r : Run _ _ _). r.crew.receivers) is;
      processors = ap (λ (r : Run _ _ _). r.crew.processors) is;
      slow = ap (λ (r : Run _ _ _). r.crew.slow) is;
      forwarders = ap (λ (r : Run _ _ _). r.crew.forwarders) is;
    }
