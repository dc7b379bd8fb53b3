use Rattle.std.proofs.Common.{◌∙◌, ap}
use Rattle.run_workers.specs.Kits.{Entry, receiving_over}
use Rattle.run_workers.proofs.entering.EnteringOverReceiver.over.Goals as goal

pub returns : goal.returns
returns g c = c.new.ensures ∙ ap (λ (e : Entry). receiving_over e c.args.source) c.self.view_is
