-- The third pass: what the book's totals are, when the workers have ended.
use Rattle.std.specs.Prelude.{◌≡◌, ◌+◌, ◌==◌, ℕ, Bool, true, false, List, [], ◌∷◌}
use Rattle.order_laws.specs.Counts.{total}
use Rattle.order_laws.specs.Settled.{Views}
use Rattle.order_laws.specs.Rules.{Rules}
use Rattle.order_laws.specs.Counted.{sum_to, SlowViews, full_processors, full_links, full_slow}
use Rattle.process_packet.specs.Cause.{number_of}
use Rattle.process_packet.specs.Totals.{dropped_for}
use Rattle.process_packet.specs.declared.cause.Cause.{Cause}
use Rattle.process_packet.specs.declared.cause.Cause.TheVariants as cause
use Rattle.process_packet.specs.declared.config.Config.{Config}
use Rattle.process_packet.specs.declared.totals.Totals.{Totals}
use Rattle.packet_ledger.specs.Amounts.{count_at, plus}
use Rattle.packet_ledger.specs.Share.{Held, posted_by, counts_of}
use Rattle.router_rules.specs.Causes.{booked_as}
use Rattle.router_rules.specs.Laws.{is_decided, is_withheld}
use Rattle.router_rules.specs.Rules.{kinds, rules}
use Rattle.worker_laws.specs.Forwards.{Handed}
use Rattle.worker_laws.specs.Counting.{Count, Received, Sent, Replied, Dropped}
use Rattle.worker_laws.specs.Causes.{by_cause, counted_in, was_sent, was_replied, was_refused, received_count, no_buffer_count, went_count, swept_count}
use Rattle.worker_order.specs.Shares.{times, Counts}

-- share by share
abbrev pub AreCounted : List Held → List (List (Count kinds)) → Type 0
AreCounted [] [] = Unit {0}
AreCounted (s ∷ shares) (ks ∷ raised) = Counts s ks × AreCounted shares raised
AreCounted _ _ = ⊥

-- what all shares ever counted, posted or not
abbrev pub totals_of : List Held → Totals
totals_of shares = plus (posted_by shares) (counts_of shares)

abbrev pub SharesAddUp : Type 0
SharesAddUp = (shares : List Held) (raised : List (List (Count kinds))) → AreCounted shares raised → (i : ℕ) → count_at i (totals_of shares) ≡ total (times i) raised

abbrev pub same_cause : Cause → Cause → Bool
same_cause a b = number_of a == number_of b

-- a drop for a cause
abbrev pub is_for : Cause → Count kinds → Bool
is_for why Received = false
is_for why Sent = false
is_for why Replied = false
is_for why (Dropped b) = same_cause (booked_as b) why

-- by receivers and processors
abbrev pub decided_count : Rules kinds → Views kinds → (Cause → Bool) → ℕ
decided_count R v test = sum_to R.links (λ p. counted_in test (v.received p)) + sum_to R.processors (λ i. counted_in test (v.worked i))

-- Each count of the totals.
pub record HasTotals (c : Config) (v : Views kinds) (s : SlowViews kinds) (went : ℕ → List (Handed kinds)) (t : Totals) : Type 0 where
  pub received : t.received ≡ received_count (rules c) v
  pub sent : t.sent ≡ went_count (rules c) went was_sent
  pub answered : t.answered ≡ went_count (rules c) went was_replied
  -- dropped by the inspection or the decision, and with the answer withheld
  pub decided : (why : Cause) → is_decided why ≡ true → dropped_for t why ≡ decided_count (rules c) v (λ b. same_cause b why)
  pub withheld : (why : Cause) → is_withheld why ≡ true → dropped_for t why ≡ counted_in (λ b. same_cause b why) s.worked
  -- refused at a processor's pipe, a link's, the slow path's
  pub processor_full : dropped_for t cause.ProcessorFull ≡ full_processors (rules c) v
  pub link_full : dropped_for t cause.LinkFull ≡ full_links (rules c) v s
  pub answer_full : dropped_for t cause.AnswerFull ≡ full_slow (rules c) v
  pub no_memory : dropped_for t cause.NoMemory ≡ 0
  -- taken after a closing mark, refused by a sink, received without a buffer for the next
  pub closed : dropped_for t cause.Closed ≡ swept_count (rules c) v
  pub send_failed : dropped_for t cause.SendFailed ≡ went_count (rules c) went was_refused
  pub no_buffer : dropped_for t cause.NoBuffer ≡ no_buffer_count (rules c) v
  -- whatever the cause, all that was dropped for it
  pub each : (why : Cause) → dropped_for t why ≡ by_cause (rules c) v s went (is_for why)
  -- and these are all
  pub balance : t.received ≡ t.sent + t.answered + total (λ n. n) t.dropped
