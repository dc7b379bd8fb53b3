-- Why packets end, as the pipeline's laws know it.
use Rattle.order_laws.specs.Cause.{Cause}
use Rattle.router_rules.specs.Rules.{kinds}
use Rattle.replay_state.specs.declared.cause.Cause.{Cause as Told}
use Rattle.replay_state.specs.declared.cause.Cause.TheVariants as told

abbrev pub cause_in : Told → Cause kinds
cause_in (told.Ruled why) = Cause.Ruled why
cause_in told.ProcessorFull = Cause.ProcessorFull
cause_in told.LinkFull = Cause.LinkFull
cause_in told.AnswerFull = Cause.AnswerFull
cause_in told.NoMemory = Cause.NoMemory
cause_in told.Closed = Cause.Closed
cause_in told.SendFailed = Cause.SendFailed
cause_in told.NoBuffer = Cause.NoBuffer
