-- What `route` writes for each line that it reads.
use Rattle.std.specs.Prelude.{ℕ, List, ◌++◌, Option, Some, None, codes, decimal, option_map}
use Rattle.hex.specs.Hex.{encode_lower}
use Rattle.process_packet.specs.Cause.{number_of}
use Rattle.process_packet.specs.Decide.{decide, moved}
use Rattle.process_packet.specs.Network.{network}
use Rattle.process_packet.specs.declared.cause.Cause.{Cause}
use Rattle.process_packet.specs.declared.config.Config.{Config}
use Rattle.process_packet.specs.declared.decision.Decision.{Decision}
use Rattle.process_packet.specs.declared.decision.Decision.TheVariants.{Send, Answer, Drop}
use Rattle.process_packet.specs.declared.decision.Problem.{Problem}
use Rattle.process_packet.specs.declared.underlay.Underlay.{Underlay}
use Rattle.text_values.specs.Shown.{text_of}
use Rattle.packet_answer.specs.Answer.{answered}
use Rattle.scmp_answer.specs.Outcome.{Leaves, Outcome, Stays}
use Rattle.cli_io.specs.HexLine.{bytes_of}
use Rattle.cli_io.specs.declared.arrival_context.ArrivalContext.{ArrivalContext}

-- where a packet is sent, `-` where its link leads to one place alone
abbrev pub to_text : Option Underlay → List ℕ
to_text None = codes "-"
to_text (Some to) = text_of to

-- the link, where the packet is sent there, and its bytes
abbrev pub sent_text : ℕ → Option Underlay → List ℕ → List ℕ
sent_text link to bytes = decimal link ++ (codes " " ++ (to_text to ++ (codes " " ++ encode_lower bytes)))

abbrev pub drop_text : Cause → List ℕ
drop_text cause = codes "drop " ++ decimal (number_of cause)

-- an answer and where it is sent, or a drop
abbrev pub outcome_text : Outcome → List ℕ
outcome_text (Leaves link to bytes) = codes "answer " ++ sent_text link to bytes
outcome_text (Stays cause) = drop_text cause

-- what becomes of a problem of a datagram that arrived so
abbrev pub reply_text : Config → ArrivalContext → List ℕ → Problem → List ℕ
reply_text config a bytes problem = outcome_text (answered config a.link a.source a.moment bytes problem)

-- the line for a decision, after which the datagram has these bytes: those that leave where it is sent, else as it arrived
abbrev pub text_for : Config → ArrivalContext → Decision → List ℕ → List ℕ
text_for config a (Send link to) bytes = codes "send " ++ (sent_text link to bytes ++ codes "\n")
text_for config a (Answer problem) bytes = reply_text config a bytes problem ++ codes "\n"
text_for config a (Drop cause) bytes = drop_text cause ++ codes "\n"

-- the line for a datagram that arrived so
abbrev pub answer_for : Config → ArrivalContext → List ℕ → List ℕ
answer_for config a bytes =
    text_for config a (decide (network config) a.link a.source a.moment bytes) (moved (network config) a.link a.source a.moment bytes)

-- the answer to a line, none where it is no hex
abbrev pub answer_to : Config → ArrivalContext → List ℕ → Option (List ℕ)
answer_to config a line = option_map (answer_for config a) (bytes_of line)
