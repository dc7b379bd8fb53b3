-- The number of each cause of a drop, and how many there are.
use Rattle.std.specs.Prelude.{ℕ}
use Rattle.process_packet.specs.declared.cause.Cause.{Cause}
use Rattle.process_packet.specs.declared.cause.Cause.TheVariants.{Short, Version, PathType, Header, Path, Peering, UnderlaySource, PathEnd, NoAnswer, NoWayBack, TooLong, ProcessorFull, LinkFull, AnswerFull, NoMemory, Closed, SendFailed, NoBuffer, OneHopEnds, OneHopField, OneHopHost}

abbrev pub causes : ℕ
causes = 21

abbrev pub number_of : Cause → ℕ
number_of Short = 1
number_of Version = 2
number_of PathType = 3
number_of Header = 4
number_of Path = 5
number_of Peering = 6
number_of UnderlaySource = 7
number_of PathEnd = 8
number_of NoAnswer = 9
number_of NoWayBack = 10
number_of TooLong = 11
number_of ProcessorFull = 12
number_of LinkFull = 13
number_of AnswerFull = 14
number_of NoMemory = 15
number_of Closed = 16
number_of SendFailed = 17
number_of NoBuffer = 18
number_of OneHopEnds = 19
number_of OneHopField = 20
number_of OneHopHost = 21
