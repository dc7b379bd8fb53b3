-- BFD, by which the routers at both ends of a link watch it (RFC 5880): which of its control packets are answered.
use Rattle.std.specs.Prelude.{ℕ, Bool, false, not, ◌&&◌, ◌==◌, List, Option, Some, None}
use Rattle.bfd_control.specs.Reception.{is_taken}
use Rattle.process_packet.specs.declared.decision.Problem.{Problem}
use Rattle.process_packet.specs.declared.neighbours.Link.{Link}
use Rattle.process_packet.specs.Network.{Network, own_link}

-- the protocol number of control packets behind a SCION header; what answers one is of this kind
abbrev pub bfd_protocol : ℕ
bfd_protocol = 203

-- The flow of what answers a control packet. That isn't answered in turn, so two routers that answer don't keep each other at it.
abbrev pub bfd_answer_flow : ℕ
bfd_answer_flow = 0xbfda0

-- the answer to one that came by the link
abbrev pub control_answer : ℕ → Problem
control_answer link = record { kind = bfd_protocol; code = 0; pointer = link }

-- the configuration has them answered
abbrev pub answers_bfd : Option Link → Bool
answers_bfd None = false
answers_bfd (Some l) = l.bfd

-- Such a packet, by its link, its flow and its bytes, is answered. The link's number is this end's discriminator.
unfoldable pub is_answered : Network → ℕ → ℕ → List ℕ → Bool
is_answered n link flow payload = answers_bfd (own_link n link) && not (flow == bfd_answer_flow) && is_taken link payload
