-- What was ever counted on a share, posted or not.
use Rattle.std.specs.Prelude.{◌≡◌, ◌+◌, ◌==◌, ℕ, List, [], ◌∷◌, length, if◌then◌else◌}
use Rattle.order_laws.specs.Counts.{total}
use Rattle.process_packet.specs.Cause.{causes, number_of}
use Rattle.packet_ledger.specs.Amounts.{count_at}
use Rattle.packet_ledger.specs.Share.{Held, counting, with_answered, with_fate, with_received, with_sent}
use Rattle.router_rules.specs.Causes.{booked_as}
use Rattle.router_rules.specs.Rules.{kinds}
use Rattle.worker_laws.specs.Counting.{Count, Received, Sent, Replied, Dropped}

-- the place of a count among those of the book: received, sent, answered, and then cause by cause
abbrev pub place_of : Count kinds → ℕ
place_of Received = 0
place_of Sent = 1
place_of Replied = 2
place_of (Dropped c) = 2 + number_of (booked_as c)

abbrev pub counts_at : ℕ → Count kinds → ℕ
counts_at i k = if place_of k == i then 1 else 0

-- how often the count at a place is among those raised
abbrev pub times : ℕ → List (Count kinds) → ℕ
times i raised = total (counts_at i) raised

-- all that was ever counted on the share are the counts raised
pub record Counts (share : Held) (raised : List (Count kinds)) : Type 0 where
  pub each : (i : ℕ) → count_at i share.posted + count_at i share.counts ≡ times i raised
  pub held : length share.counts.dropped ≡ causes
  pub booked : length share.posted.dropped ≡ causes

-- the share with one count more
abbrev pub raise : Count kinds → Held → Held
raise Received s = counting s (with_received 1 s.counts)
raise Sent s = counting s (with_sent s.counts)
raise Replied s = counting s (with_answered s.counts)
raise (Dropped c) s = counting s (with_fate (booked_as c) s.counts)

abbrev pub raise_all : List (Count kinds) → Held → Held
raise_all [] s = s
raise_all (k ∷ ks) s = raise_all ks (raise k s)
