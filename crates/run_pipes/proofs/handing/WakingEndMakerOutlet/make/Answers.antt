use Rattle.std.proofs.Common.{◌∙◌, Bool, false, ap}
use Rattle.worker_parts.specs.Outlet.{offering}
use Rattle.run_pipes.proofs.handing.WakingEndMakerOutlet.make.Goals as goal

pub returns : goal.returns
returns g c = c.of.ensures ∙ ap (λ (b : Bool). offering c.args.producer false b) c.in_ok-event.ensures
