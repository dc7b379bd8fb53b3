-- No SCMP error message is answered by another one.
use Rattle.std.specs.Prelude.{◌≡◌, ◌⊎◌, ◌<◌, ℕ, List, [], ◌∷◌, Option, Some, None}
use Rattle.scion_packet.specs.Extensions.{Layer, upper_layer}
use Rattle.scion_packet.specs.Header.{HostAddress}
use Rattle.scion_packet.specs.Packet.{Packet, packet_of}
use Rattle.process_packet.specs.declared.cause.Cause.TheVariants.{NoAnswer}
use Rattle.process_packet.specs.declared.decision.Decision.TheVariants as decision
use Rattle.process_packet.specs.declared.decision.Problem.{Problem}
use Rattle.process_packet.specs.declared.underlay.Underlay.{Underlay}
use Rattle.process_packet.specs.Decide.{decide}
use Rattle.process_packet.specs.Network.{Network}
use Rattle.scmp_answer.specs.Reply.{Dropped, Sent, reply}

-- ---- whoever sent it

-- After its extensions the packet carries an SCMP message (protocol 202) whose type, its first byte, is that of an error, below
-- 128. Or it can't be told from one: the type isn't there, or an extension isn't wholly there.
pub data MayBeError (p : Packet) : Type 0 where
  error : (l : Layer) (kind : ℕ) (others : List ℕ) → upper_layer p.header.next_header p.payload ≡ Some l → l.protocol ≡ 202 → l.bytes ≡ kind ∷ others → kind < 128 → MayBeError p
  no_type : (l : Layer) → upper_layer p.header.next_header p.payload ≡ Some l → l.protocol ≡ 202 → l.bytes ≡ [] → MayBeError p
  cut : upper_layer p.header.next_header p.payload ≡ None → MayBeError p

-- Whatever problem a router finds with it, it answers nothing.
abbrev pub NoErrorIsAnswered : Type 0
NoErrorIsAnswered =
    (here : HostAddress) (n : Network) (link : ℕ) (source : Underlay) (moment : ℕ) (bytes : List ℕ) (problem : Problem)
    → MayBeError (packet_of bytes) → decide n link source moment bytes ≡ decision.Answer problem
    → reply here link source bytes problem ≡ Dropped NoAnswer

-- ---- this router's own

-- The datagram has the header and the payload of this answer: what routers change on its way is its path alone.
pub record Bears (answer : Packet) (bytes : List ℕ) : Type 0 where
  pub header : (packet_of bytes).header ≡ answer.header
  pub payload : (packet_of bytes).payload ≡ answer.payload

-- Wherever an answer of type 1 or 4 comes to and isn't sent on there, whatever the problem, nothing is answered.
abbrev pub ErrorsAreLeftUnanswered : Type 0
ErrorsAreLeftUnanswered =
    (here there : HostAddress) (n : Network) (link link' : ℕ) (source source' : Underlay) (moment : ℕ) (bytes bytes' : List ℕ) (problem problem' : Problem)
    (out : ℕ) (to : Option Underlay) (answer : Packet)
    → reply here link source bytes problem ≡ Sent out to answer → (problem.kind ≡ 1) ⊎ (problem.kind ≡ 4) → Bears answer bytes'
    → decide n link' source' moment bytes' ≡ decision.Answer problem'
    → reply there link' source' bytes' problem' ≡ Dropped NoAnswer
