-- A packet on a path of one hop crosses one link.
use Rattle.std.proofs.Common.{◌≡◌, ◌≢◌, sym, subst}
use Rattle.scion_packet.specs.Header.{one_hop_path}
use Rattle.scion_packet.proofs.HeaderSpelled.{header_passes}
use Rattle.scion_packet.proofs.OneHopLaws.{one_hop_both_pass}
use Rattle.process_packet.specs.OneHopLaws.{IsOneHop}
use Rattle.process_packet.proofs.OneHopByteLemmas.{all_enter, all_leave}
use Rattle.net_laws.specs.Configured.{AreNumbered}
use Rattle.net_laws.specs.Net.{Agrees, Net}
use Rattle.path_authorisation.specs.OneHops.{EntersOnce, LeavesOnce, OneHopsCrossOneLink}
use Rattle.path_authorisation.specs.Sendings.{ComesFrom, IsSending, Sending, arrival, left}
use Rattle.path_authorisation.proofs.NextLemmas.{over_wire}

leaves : (net : Net) (s : Sending) → IsSending net s → IsOneHop s.bytes → s.link ≡ 0 → LeavesOnce s
leaves net s is once inside =
    let both = all_leave.only s.here.network s.link s.source s.moment s.bytes s.out s.to once inside is.decision in
    record { address = both.0; may = both.1 }

enters : (net : Net) (s : Sending) → IsSending net s → IsOneHop s.bytes → s.link ≢ 0 → EntersOnce s
enters net s is once outside =
    let both = all_enter.only s.here.network s.link s.source s.moment s.bytes s.out s.to once outside is.decision in
    record { inside = both.0; to = both.1 }

then_enters : (net : Net) (s t : Sending) → Agrees net → AreNumbered net → IsSending net s → IsSending net t → IsOneHop s.bytes → s.link ≡ 0 → ComesFrom net s t → EntersOnce t
then_enters net s t agrees numbered is next once inside comes =
    let out : LeavesOnce s = leaves net s is once inside in
    let sound = (all_leave.chained s.here.network s.link s.source s.moment s.bytes s.out s.to is.are once inside is.decision).sound in
    let after : IsOneHop (left s) = (header_passes one_hop_path (left s) (one_hop_both_pass (left s) sound).0).path_type in
    enters net t next (subst IsOneHop (sym comes.bytes) after)
    (over_wire net s.router s.here s.out s.to (arrival t) t.here agrees numbered is.here_is next.here_is out.address comes.carried).outside

pub cross_one : OneHopsCrossOneLink
cross_one = record { leaves = leaves; then_enters = then_enters; enters = enters }
