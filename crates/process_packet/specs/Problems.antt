-- The problems that senders are told, and the traceroute requests that are answered.
use Rattle.std.specs.Prelude.{◌≡◌, ◌≢◌, ℕ, true, false, List, is_some}
use Rattle.process_packet.specs.Conditions.{AlertsEntry, AlertsExit, ComesInBy, GoesOutBy, HasItsPair}
use Rattle.process_packet.specs.Decide.{verdict}
use Rattle.process_packet.specs.Laws.{IsAuthorised}
use Rattle.process_packet.specs.Network.{Network, own_link}
use Rattle.process_packet.specs.Request.{is_request}
use Rattle.process_packet.specs.Rows.{Answered}
use Rattle.process_packet.specs.Shown.{StandsToLeave, is_for_us, turned}
use Rattle.process_packet.specs.PacketState.{PacketState, arrives, hop, info}
use Rattle.process_packet.specs.declared.decision.Problem.{Problem}
use Rattle.process_packet.specs.declared.underlay.Underlay.{Underlay}

-- A traceroute request that came from outside and showed all that a packet must show where it arrives; its hop field sets the
-- router alert flag of this interface, by which it came.
pub record IsAskedAtEntry (s : PacketState) (interface : ℕ) : Type 0 where
  pub external : s.link ≢ 0
  pub authorised : IsAuthorised s
  pub request : is_request s.header.next_header s.payload ≡ true
  pub flag : AlertsEntry (info s) (hop s)
  pub by : ComesInBy (info s) (hop s) interface

-- A traceroute request for another AS, which showed that too, and that its pair of links is lawful; the hop field by which it
-- leaves sets the flag of this interface, which is one of this router's own.
pub record IsAskedAtExit (s u : PacketState) (interface : ℕ) : Type 0 where
  pub authorised : IsAuthorised s
  pub request : is_request s.header.next_header s.payload ≡ true
  pub others : is_for_us s ≡ false
  pub leaves : StandsToLeave (turned s) u
  pub pair : HasItsPair u
  pub flag : AlertsExit (info u) (hop u)
  pub by : GoesOutBy (info u) (hop u) interface
  pub own : is_some (own_link u.network interface) ≡ true

-- Destination unreachable (type 1), a parameter problem (4), or a traceroute reply (131), for one of two requests.
pub data IsProblem (s : PacketState) (q : Problem) : Type 0 where
  unreachable : q.kind ≡ 1 → IsProblem s q
  parameter : q.kind ≡ 4 → IsProblem s q
  reply_at_entry : q.kind ≡ 131 → q.code ≡ 0 → IsAskedAtEntry s q.pointer → IsProblem s q
  reply_at_exit : (u : PacketState) → q.kind ≡ 131 → q.code ≡ 0 → IsAskedAtExit s u q.pointer → IsProblem s q

abbrev pub ProblemsAreLawful : Type 0
ProblemsAreLawful =
    (n : Network) (link : ℕ) (source : Underlay) (moment : ℕ) (bytes : List ℕ) (q : Problem)
    → verdict n link source moment bytes ≡ Answered q → IsProblem (arrives n link source moment bytes) q
