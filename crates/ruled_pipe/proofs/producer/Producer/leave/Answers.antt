use Rattle.std.proofs.Common.{sym, ap, ◌∙◌}
use Rattle.ruled_pipe.specs.Producer.{Sender}
use Rattle.ruled_pipe.proofs.Steps.{leaves_from}
use Rattle.ruled_pipe.proofs.producer.Producer.leave.Goals as goal

pub absorb-requires-clause-rule : goal.absorb-requires-clause-rule
absorb-requires-clause-rule g c = leaves_from _ _ _ _ _ _ _ _ _ _ _ c.requires.next.0 c.self.invariant.1 (ap (λ (s : Sender g.row.T.Denot). s.number) c.self.view_is ∙ sym c.requires.next.1)

pub returns-clause-full : goal.returns-clause-full
returns-clause-full g c = rw (← c.self.view_is) c.self.invariant.2
