-- A packet on a path of one hop crosses one link, whoever made it.
use Rattle.std.specs.Prelude.{◌≡◌, ◌≢◌, None}
use Rattle.process_packet.specs.OneHopLaws.{EntersTo, IsOneHop, MayLeaveBy}
use Rattle.process_packet.specs.OneHopState.{OneHopState, one_hop_arrives}
use Rattle.net_laws.specs.Configured.{AreNumbered}
use Rattle.net_laws.specs.Net.{Agrees, Net}
use Rattle.path_authorisation.specs.Sendings.{ComesFrom, IsSending, Sending}

abbrev pub one_hop_state : Sending → OneHopState
one_hop_state s = one_hop_arrives s.here.network s.link s.source s.moment s.bytes

-- It leaves by a link, with a hop field that carries the MAC of the AS's key for that link and this AS as its source.
pub record LeavesOnce (s : Sending) : Type 0 where
  pub address : s.to ≡ None
  pub may : MayLeaveBy (one_hop_state s) s.out

-- It goes to a host or service of the AS, from the AS at the other end of its link.
pub record EntersOnce (s : Sending) : Type 0 where
  pub inside : s.out ≡ 0
  pub to : EntersTo (one_hop_state s) s.to

-- From inside it leaves by a link, and the router to which it comes sends it to a host or service, if it sends it; from outside it is sent
-- to one.
pub record OneHopsCrossOneLink : Type 0 where
  pub leaves : (net : Net) (s : Sending) → IsSending net s → IsOneHop s.bytes → s.link ≡ 0 → LeavesOnce s
  pub then_enters : (net : Net) (s t : Sending) → Agrees net → AreNumbered net → IsSending net s → IsSending net t → IsOneHop s.bytes → s.link ≡ 0 → ComesFrom net s t
      → EntersOnce t
  pub enters : (net : Net) (s : Sending) → IsSending net s → IsOneHop s.bytes → s.link ≢ 0 → EntersOnce s
