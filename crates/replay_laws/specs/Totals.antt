-- The counts of a world.
use Rattle.std.specs.Prelude.{◌≡◌, ℕ, Bool, true, not, ◌+◌, if◌then◌else◌, take, drop}
use Rattle.order_laws.specs.Kinds.{Kinds}
use Rattle.order_laws.specs.Item.{Item}
use Rattle.replay_laws.specs.Marks.{is_named}
use Rattle.order_laws.specs.Counts.{total, count}
use Rattle.replay_laws.specs.Pipe.{held}
use Rattle.order_laws.specs.Rules.{Rules}
use Rattle.replay_laws.specs.World.{World, Hand, Empty, Got, Owes}
use Rattle.order_laws.specs.Cause.{Cause}
use Rattle.replay_laws.specs.Start.{Reached, IsLawfulFor}

module _ {K : Kinds} where
  -- a packet on one of its stages, or the answer to one; no mark
  abbrev pub is_packet : Item K → Bool
  is_packet x = is_named (λ a n. true) x

  abbrev pub packets_in_hand : Hand K → ℕ
  packets_in_hand Empty = 0
  packets_in_hand (Got x) = if is_packet x then 1 else 0
  packets_in_hand (Owes x) = if is_packet x then 1 else 0

  abbrev pub received_count : Rules K → World K → ℕ
  received_count R w = total (λ p. p.taken) (take R.links w.pipes)

  abbrev pub sent_count : World K → ℕ
  sent_count w = total (count (λ o. not o.answer)) w.sent

  abbrev pub answered_count : World K → ℕ
  answered_count w = total (count (λ o. o.answer)) w.sent

  -- in a hand or in a pipe
  abbrev pub waiting_count : Rules K → World K → ℕ
  waiting_count R w = total packets_in_hand w.hands + total (λ p. count is_packet (held p)) (drop R.links w.pipes)

  -- dropped with one of some causes
  abbrev pub dropped_count : (Cause K → Bool) → World K → ℕ
  dropped_count test w = count (λ f. test f.cause) w.fates

-- After any list of steps as many packets were received as are sent, answered, waiting and dropped, in sum.
abbrev pub KeepsTotals : Kinds → Type 0
KeepsTotals K =
    (R : Rules K) (w : World K) (r : Reached R w) → IsLawfulFor R w r →
    received_count R w ≡ sent_count w + answered_count w + waiting_count R w + dropped_count (λ c. true) w
