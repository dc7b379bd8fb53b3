-- The causes of drops by name.
use Rattle.std.specs.Prelude.{ℕ, List, [], ◌∷◌, codes}
use Rattle.process_packet.specs.declared.cause.Cause.{Cause}
use Rattle.process_packet.specs.declared.cause.Cause.TheVariants.{Short, Version, PathType, Header, Path, Peering, UnderlaySource, PathEnd, NoAnswer, NoWayBack, TooLong, ProcessorFull, LinkFull, AnswerFull, NoMemory, Closed, SendFailed, NoBuffer, OneHopEnds, OneHopField, OneHopHost}

-- all causes, in the order of their numbers
abbrev pub every_cause : List Cause
every_cause = Short ∷ Version ∷ PathType ∷ Header ∷ Path ∷ Peering ∷ UnderlaySource ∷ PathEnd ∷ NoAnswer ∷ NoWayBack ∷ TooLong ∷ ProcessorFull ∷ LinkFull ∷ AnswerFull ∷ NoMemory ∷ Closed ∷ SendFailed ∷ NoBuffer ∷ OneHopEnds ∷ OneHopField ∷ OneHopHost ∷ []

-- its words, in lower case
abbrev pub reason_of : Cause → List ℕ
reason_of Short = codes "short"
reason_of Version = codes "version"
reason_of PathType = codes "path_type"
reason_of Header = codes "header"
reason_of Path = codes "path"
reason_of Peering = codes "peering"
reason_of UnderlaySource = codes "underlay_source"
reason_of PathEnd = codes "path_end"
reason_of NoAnswer = codes "no_answer"
reason_of NoWayBack = codes "no_way_back"
reason_of TooLong = codes "too_long"
reason_of ProcessorFull = codes "processor_full"
reason_of LinkFull = codes "link_full"
reason_of AnswerFull = codes "answer_full"
reason_of NoMemory = codes "no_memory"
reason_of Closed = codes "closed"
reason_of SendFailed = codes "send_failed"
reason_of NoBuffer = codes "no_buffer"
reason_of OneHopEnds = codes "one_hop_ends"
reason_of OneHopField = codes "one_hop_field"
reason_of OneHopHost = codes "one_hop_host"
