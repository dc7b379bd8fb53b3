use Rattle.std.proofs.Common.{◌∙◌, ap}
use Rattle.run_workers.specs.Kits.{Exit, forwarding_over}
use Rattle.run_workers.proofs.leaving.LeavingOverForwarder.over.Goals as goal

pub returns : goal.returns
returns g c = c.new.ensures ∙ ap (λ (e : Exit). forwarding_over g.K.Sink.failed e c.args.sink) c.self.view_is
