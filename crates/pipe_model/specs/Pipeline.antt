-- A pipeline: its configuration, and its world at one moment.
use Rattle.std.specs.Prelude.{ℕ, List, map, Option, Some, None}
use Rattle.replay_laws.specs.Next.{next}
use Rattle.replay_laws.specs.Run.{run, skipped_from}
use Rattle.order_laws.specs.Rules.{Rules}
use Rattle.replay_laws.specs.World.{World}
use Rattle.process_packet.specs.declared.config.Config.{Config}
use Rattle.router_rules.specs.Rules.{kinds, rules}
use Rattle.replay_steps.specs.Step.{step_in}
use Rattle.replay_steps.specs.declared.step.Step.{Step as Act}

pub record Pipeline : Type 0 where
  pub config : Config
  pub world : World kinds

abbrev pub rules_in : Pipeline → Rules kinds
rules_in p = rules p.config

abbrev pub with_world : Pipeline → Option (World kinds) → Option Pipeline
with_world p None = None
with_world p (Some w) = Some (record p { world = w })

-- the pipeline after a step, or None where it isn't possible
abbrev pub stepped : Pipeline → Act → Option Pipeline
stepped p s = with_world p (next (rules_in p) p.world (step_in p.config s))

-- the pipeline after the possible ones of some steps
abbrev pub ran : Pipeline → List Act → Pipeline
ran p ss = record p { world = run (rules_in p) p.world (map (step_in p.config) ss) }

-- the indices of the steps that weren't possible, from 0 on
abbrev pub skipped : Pipeline → List Act → List ℕ
skipped p ss = skipped_from (rules_in p) p.world 0 (map (step_in p.config) ss)
