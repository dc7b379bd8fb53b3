-- Where each count is below the limit of a share, each may be raised.
use Rattle.std.proofs.Common.{ℕ, suc, ◌+◌, ◌-◌, ◌<◌, ◌≤◌, ◌^◌, slice_index_or, arith}
use Rattle.packet_ledger.specs.Share.{HasRoom, MayRaise}
use Rattle.process_packet.specs.Cause.{number_of}
use Rattle.process_packet.specs.declared.totals.Totals.{Totals}

dropped_room : (t : Totals) (k : ℕ) → HasRoom t → slice_index_or t.dropped k 0 + 1 ≤ 2 ^ 100
dropped_room t k room = let r : slice_index_or t.dropped k 0 < 2 ^ 100 = room (suc (suc (suc k))) in omega arith

pub may_raise : (t : Totals) → HasRoom t → MayRaise t
may_raise t room = (let r = room 0 in omega arith, let r = room 1 in omega arith, let r = room 2 in omega arith, λ why. dropped_room t (number_of why - 1) room)
