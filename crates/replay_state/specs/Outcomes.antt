-- What workers make of items, as the pipeline's laws know it.
use Rattle.replay_laws.specs.Next.{Outcome}
use Rattle.router_rules.specs.Rules.{kinds}
use Rattle.replay_state.specs.declared.rules.Outcome.{Outcome as Made}
use Rattle.replay_state.specs.declared.rules.Outcome.TheVariants as made
use Rattle.replay_state.specs.Causes.{cause_in}
use Rattle.replay_state.specs.Items.{item_in}

abbrev pub outcome_in : Made → Outcome kinds
outcome_in (made.Makes x) = Outcome.Makes (item_in x)
outcome_in (made.Ends why) = Outcome.Ends (cause_in why)
