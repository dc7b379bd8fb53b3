-- What is done with a datagram, and the bytes that leave.
use Rattle.std.specs.Prelude.{◌≡◌, ℕ, List}
use Rattle.process_packet.specs.declared.arrival.Arrival.{Arrival}
use Rattle.process_packet.specs.declared.arrival.Routed.{Routed}
use Rattle.process_packet.specs.declared.arrival.Routed.TheVariants as routed
use Rattle.process_packet.specs.declared.decision.Decision.{Decision}
use Rattle.process_packet.specs.declared.decision.Decision.TheVariants as decision
use Rattle.process_packet.specs.Decide.{decide, moved}
use Rattle.process_packet.specs.Network.{Network}

-- it is this decision, with these bytes where it is sent
abbrev pub IsRouted : Decision → List ℕ → Routed → Type 0
IsRouted d bytes (routed.Send link to out) = (d ≡ decision.Send link to) × (out.items ≡ bytes)
IsRouted d bytes (routed.Answer problem) = d ≡ decision.Answer problem
IsRouted d bytes (routed.Drop cause) = d ≡ decision.Drop cause

abbrev pub IsSend : Decision → Type 0
IsSend (decision.Send link to) = Unit {0}
IsSend (decision.Answer problem) = ⊥
IsSend (decision.Drop cause) = ⊥

abbrev pub IsAnswer : Decision → Type 0
IsAnswer (decision.Send link to) = ⊥
IsAnswer (decision.Answer problem) = Unit {0}
IsAnswer (decision.Drop cause) = ⊥

abbrev pub decision_for : Network → Arrival → Decision
decision_for n a = decide n a.link a.source a.now a.bytes.items

abbrev pub bytes_for : Network → Arrival → List ℕ
bytes_for n a = moved n a.link a.source a.now a.bytes.items
