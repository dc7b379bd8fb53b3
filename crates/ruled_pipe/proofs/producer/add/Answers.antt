use Rattle.ruled_pipe.proofs.Steps.{adds_from}
use Rattle.ruled_pipe.proofs.producer.add.Goals as goal

pub another-own-requires-clause-rule : goal.another-own-requires-clause-rule
another-own-requires-clause-rule g c = adds_from _ _ _ _ c.requires.below c.requires.seat.1
