-- Of a running pipeline that has ended: what its workers counted, cause by cause.
use Rattle.std.specs.Prelude.{◌≡◌, ◌+◌, ℕ, Bool, true, false, not, ◌&&◌, List, length, if◌then◌else◌}
use Rattle.order_laws.specs.Kinds.{Kinds}
use Rattle.order_laws.specs.Rules.{Rules, IsLawful}
use Rattle.order_laws.specs.Cause.{Cause}
use Rattle.order_laws.specs.Pipes.{link_pipe}
use Rattle.order_laws.specs.Counts.{total, count}
use Rattle.order_laws.specs.Deeds.{Ending, Accepted, Refused, Lacked, Counted, Deed}
use Rattle.order_laws.specs.Settled.{Views, told, IsTold}
use Rattle.order_laws.specs.Counted.{sum_to, SlowViews, place_of, link_pipes, full_processors, full_links, full_slow, IsCounted}
use Rattle.worker_laws.specs.Receives.{lacks}
use Rattle.worker_laws.specs.Forwards.{Handed}
use Rattle.worker_laws.specs.Counting.{Count, Received, Sent, Replied, Dropped, counted_receiving, counted_working, counted_answering, counted_forwarding}
use Rattle.worker_laws.specs.Ended.{Ended}

abbrev pub when : Bool → ℕ → ℕ
when b n = if b then n else 0

module _ {C : Type 0} where
  abbrev pub was_counted : (C → Bool) → Ending C → ℕ
  was_counted test Accepted = 0
  was_counted test Refused = 0
  was_counted test Lacked = 0
  was_counted test (Counted c) = if test c then 1 else 0

module _ {C X : Type 0} where
  abbrev pub counted_in : (C → Bool) → List (Deed C X) → ℕ
  counted_in test log = total (λ d. was_counted test d.end) log

module _ {K : Kinds} where
  abbrev pub was_sent : Handed K → Bool
  was_sent h = h.took && not h.item.answer

  abbrev pub was_replied : Handed K → Bool
  was_replied h = h.took && h.item.answer

  abbrev pub was_refused : Handed K → Bool
  was_refused h = not h.took

  -- ---- all that the workers counted

  abbrev pub all_counts : Rules K → Views K → SlowViews K → (ℕ → List (Handed K)) → (Count K → Bool) → ℕ
  all_counts R v s went test =
      sum_to R.links (λ p. count test (counted_receiving (v.received p)))
      + sum_to R.processors (λ i. count test (counted_working R (v.worked i)))
      + count test (counted_answering s.worked)
      + sum_to R.links (λ l. count test (counted_forwarding (went l) (v.forwarded (link_pipe R false l)) (v.forwarded (link_pipe R true l))))

  -- ---- and what was there to count

  abbrev pub received_count : Rules K → Views K → ℕ
  received_count R v = sum_to R.links (λ p. length (told v p))

  -- dropped by the decision, or with the reply withheld, for some reasons
  abbrev pub ruled_count : Rules K → Views K → SlowViews K → (K.RuleCause → Bool) → ℕ
  ruled_count R v s test = sum_to R.links (λ p. counted_in test (v.received p)) + sum_to R.processors (λ i. counted_in test (v.worked i)) + counted_in test s.worked

  abbrev pub no_buffer_count : Rules K → Views K → ℕ
  no_buffer_count R v = sum_to R.links (λ p. lacks (v.received p))

  abbrev pub went_count : Rules K → (ℕ → List (Handed K)) → (Handed K → Bool) → ℕ
  went_count R went test = sum_to R.links (λ l. count test (went l))

  abbrev pub swept_count : Rules K → Views K → ℕ
  swept_count R v = sum_to (link_pipes R) (λ j. length (v.swept (place_of R j)))

  -- cause by cause, for those that the test asks about; nothing was dropped for want of memory
  abbrev pub by_cause : Rules K → Views K → SlowViews K → (ℕ → List (Handed K)) → (Count K → Bool) → ℕ
  by_cause R v s went test =
      when (test Received) (received_count R v)
      + when (test Sent) (went_count R went was_sent)
      + when (test Replied) (went_count R went was_replied)
      + ruled_count R v s (λ c. test (Dropped (Cause.Ruled c)))
      + when (test (Dropped Cause.ProcessorFull)) (full_processors R v)
      + when (test (Dropped Cause.LinkFull)) (full_links R v s)
      + when (test (Dropped Cause.AnswerFull)) (full_slow R v)
      + when (test (Dropped Cause.Closed)) (swept_count R v)
      + when (test (Dropped Cause.SendFailed)) (went_count R went was_refused)
      + when (test (Dropped Cause.NoBuffer)) (no_buffer_count R v)

  abbrev pub is_received : Count K → Bool
  is_received Received = true
  is_received Sent = false
  is_received Replied = false
  is_received (Dropped c) = false

  abbrev pub is_sent : Count K → Bool
  is_sent Received = false
  is_sent Sent = true
  is_sent Replied = false
  is_sent (Dropped c) = false

  abbrev pub is_replied : Count K → Bool
  is_replied Received = false
  is_replied Sent = false
  is_replied Replied = true
  is_replied (Dropped c) = false

  abbrev pub is_dropped : Count K → Bool
  is_dropped Received = false
  is_dropped Sent = false
  is_dropped Replied = false
  is_dropped (Dropped c) = true

pub record HasCounts {K : Kinds} (R : Rules K) (v : Views K) (s : SlowViews K) (went : ℕ → List (Handed K)) : Type 0 where
  pub each : (test : Count K → Bool) → all_counts R v s went test ≡ by_cause R v s went test
  -- received is sent, answered or dropped
  pub balance : all_counts R v s went is_received ≡ all_counts R v s went is_sent + all_counts R v s went is_replied + all_counts R v s went is_dropped
  -- and handed on, refused at a full pipe, not offered or swept
  pub once : IsCounted R v s

abbrev pub CountsEachCause : Kinds → Type 0
CountsEachCause K = (R : Rules K) (v : Views K) (s : SlowViews K) (went : ℕ → List (Handed K)) (closed : ℕ → Bool) → IsLawful R (IsTold v) → Ended R v s went closed → HasCounts R v s went
