-- Why packets end: a cause of the pipeline's laws as one of all causes, which the book counts.
use Rattle.order_laws.specs.Cause.{Cause}
use Rattle.process_packet.specs.declared.cause.Cause.{Cause as RouterCause}
use Rattle.process_packet.specs.declared.cause.Cause.TheVariants as why
use Rattle.router_rules.specs.Rules.{kinds}

abbrev pub booked_as : Cause kinds → RouterCause
booked_as (Cause.Ruled w) = w
booked_as Cause.ProcessorFull = why.ProcessorFull
booked_as Cause.LinkFull = why.LinkFull
booked_as Cause.AnswerFull = why.AnswerFull
booked_as Cause.NoMemory = why.NoMemory
booked_as Cause.Closed = why.Closed
booked_as Cause.SendFailed = why.SendFailed
booked_as Cause.NoBuffer = why.NoBuffer
