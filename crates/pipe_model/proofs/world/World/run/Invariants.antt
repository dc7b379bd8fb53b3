use Rattle.std.proofs.Common.{◌≡◌, ◌++◌, map, take, drop}
use Rattle.replay_laws.specs.Run.{skipped_from}
use Rattle.pipe_model.specs.Pipeline.{ran, rules_in, skipped}
use Rattle.replay_steps.specs.Step.{step_in}
use Rattle.pipe_model.proofs.world.World.run.Given as goal

abbrev pub invariant-loop-i : goal.invariant-loop-i
invariant-loop-i l = record {
  world : l.self ≡ ran l.initial.self (take l.i l.steps);
  places : l.places.items ++ skipped_from (rules_in l.self) l.self.world l.i (map (step_in l.self.config) (drop l.i l.steps)) ≡ skipped l.initial.self l.steps;
}
