-- What a decision tells in numbers.
use Rattle.std.specs.Prelude.{ℕ, ◌+◌, ◌*◌, Option, Some, None}
use Rattle.process_packet.specs.Cause.{number_of}
use Rattle.process_packet.specs.declared.decision.Decision.{Decision}
use Rattle.process_packet.specs.declared.decision.Decision.TheVariants.{Send, Answer, Drop}
use Rattle.process_packet.specs.declared.underlay.Underlay.{Underlay}

abbrev pub sent_kind : Option Underlay → ℕ
sent_kind None = 1
sent_kind (Some to) = 2

abbrev pub kind_of : Decision → ℕ
kind_of (Send link to) = sent_kind to
kind_of (Answer problem) = 3
kind_of (Drop cause) = 4

-- the leaving link; of an answer its type and code; of a drop its cause's number
abbrev pub what_of : Decision → ℕ
what_of (Send link to) = link
what_of (Answer problem) = problem.kind * 256 + problem.code
what_of (Drop cause) = number_of cause
