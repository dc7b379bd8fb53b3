-- A small run that has ended: one link with two bands, one processor, and each way in which a packet may end.
use Rattle.std.specs.Prelude.{◌≡◌, ◌==◌, ℕ, Bool, true, false, List, [], ◌∷◌, map, Some, None, if◌then◌else◌}
use Rattle.atomic_table.specs.Seated.{TableId}
use Rattle.ruled_pipe.specs.declared.entry.Entry.{Entry}
use Rattle.ruled_pipe.specs.declared.entry.Load.TheVariants.{Payload, Marked}
use Rattle.ruled_pipe.specs.declared.entry.Mark.TheVariants.{Close, End}
use Rattle.ruled_pipe.specs.Producer.{Sender, entry, refusal}
use Rattle.ruled_pipe.specs.Consumer.{Taker}
use Rattle.order_laws.specs.Kinds.{Kinds}
use Rattle.order_laws.specs.Item.{Arrival, Outgoing}
use Rattle.order_laws.specs.Rules.{Rules, Sends, Asks, Drops, Replies, Withholds, IsLawful}
use Rattle.order_laws.specs.Cause.{Cause}
use Rattle.order_laws.specs.Pipes.{link_pipe}
use Rattle.order_laws.specs.Deeds.{Deed, Accepted, Refused, Lacked, Counted}
use Rattle.order_laws.specs.Settled.{SlowPathRequest}
use Rattle.worker_laws.specs.Works.{deed}
use Rattle.worker_laws.specs.Weighed.{places}
use Rattle.worker_laws.specs.Places.{only_of}
use Rattle.worker_laws.specs.Counting.{Count, Received, Sent, Replied, Dropped}
use Rattle.worker_laws.specs.Causes.{all_counts, is_received, is_sent, is_replied, is_dropped}
use Rattle.worker_laws.specs.Workers.{Workers, views_of, slow_views, went_at, HaveEnded}

abbrev pub samples : Kinds
samples = record { Datagram = ℕ; Parcel = ℕ; Problem = ℕ; RuleCause = ℕ; Key = ℕ }

-- 9 has a fault, 7 is dropped, 5 and 6 are asked about, and 6 has no answer; all else is sent on, and 2 is urgent
abbrev pub rules : Rules samples
rules = record {
  links = 1;
  processors = 1;
  two_bands = λ l. true;
  inspect = λ x. if x.datagram == 9 then Some 4 else None;
  decide = λ x. if x.datagram == 9 then Drops 4 else (if x.datagram == 7 then Drops 6 else (if x.datagram == 5 then Asks 52 else (if x.datagram == 6 then Asks 53 else Sends 0 x.datagram)));
  reply = λ x p. if p == 53 then Withholds 10 else Replies 0 55;
  key = λ x. 0;
  same_key = λ k m. k == m;
  processor = λ k. 0;
  urgent = λ x. x.datagram == 2;
  urgent_parcel = λ y. y == 2;
}

abbrev pub arrived : ℕ → ℕ → Arrival samples
arrived n d = record { link = 0; number = n; datagram = d }

abbrev pub out : ℕ → ℕ → Outgoing samples
out n y = record { arrived = 0; number = n; answer = false; link = 0; parcel = y }

abbrev pub answer : ℕ → Outgoing samples
answer n = record { arrived = 0; number = n; answer = true; link = 0; parcel = 55 }

abbrev pub request : ℕ → ℕ → ℕ → SlowPathRequest samples
request n d p = record { arrival = arrived n d; problem = p }

abbrev Did : Type 0
Did = Deed ℕ (Arrival samples)

-- the receiver's deeds, and the processor's
abbrev pub received : List Did
received =
    deed (arrived 1 1) Accepted ∷ deed (arrived 2 2) Accepted ∷ deed (arrived 3 3) Refused ∷ deed (arrived 4 4) Lacked ∷ deed (arrived 5 9) (Counted 4) ∷ deed (arrived 6 5) Accepted
    ∷ deed (arrived 7 6) Accepted ∷ deed (arrived 8 7) Accepted ∷ deed (arrived 9 8) Accepted ∷ deed (arrived 10 10) Accepted ∷ deed (arrived 11 5) Accepted ∷ []

abbrev pub worked : List Did
worked =
    deed (arrived 1 1) Accepted ∷ deed (arrived 2 2) Accepted ∷ deed (arrived 6 5) Accepted ∷ deed (arrived 7 6) Accepted ∷ deed (arrived 8 7) (Counted 6) ∷ deed (arrived 9 8) Refused
    ∷ deed (arrived 10 10) Accepted ∷ deed (arrived 11 5) Refused ∷ []

abbrev told : {X : Type 0} → ℕ → X → Entry X
told p x = entry p (Payload x)

abbrev to_processor : List (Entry (Arrival samples))
to_processor =
    told 0 (arrived 1 1) ∷ told 0 (arrived 2 2) ∷ told 0 (arrived 6 5) ∷ told 0 (arrived 7 6) ∷ told 0 (arrived 8 7) ∷ told 0 (arrived 9 8) ∷ told 0 (arrived 10 10) ∷ told 0 (arrived 11 5) ∷ entry 0 (Marked End) ∷ []

abbrev to_slow : List (Entry (SlowPathRequest samples))
to_slow = told 0 (request 6 5 52) ∷ told 0 (request 7 6 53) ∷ entry 0 (Marked End) ∷ []

abbrev taken : {X : Type 0} → TableId → ℕ → List (Entry X) → Taker X
taken id producers es = record { pipe = id; producers = producers; capacity = 2; taken = es; looks = [] }

abbrev sender : {X : Type 0} → TableId → (number producers : ℕ) → List (Entry X) → List X → Sender X
sender id number producers es refused =
    record { pipe = id; number = number; producers = producers; capacity = 2; offers = es; refusals = map (λ x. refusal (told number x) 0) refused }

abbrev pub workers : TableId → Workers samples
workers id = record {
  receivers = record { log = received; senders = sender id 0 1 to_processor (arrived 3 3 ∷ []) ∷ [] } ∷ [];
  processors = record {
    log = worked;
    taker = taken id 1 to_processor;
    links = sender id 0 3 (told 0 (out 1 1) ∷ told 0 (out 10 10) ∷ entry 0 (Marked End) ∷ []) (out 9 8 ∷ []) ∷ sender id 0 3 (told 0 (out 2 2) ∷ entry 0 (Marked End) ∷ []) [] ∷ [];
    slow = sender id 0 1 to_slow (request 11 5 52 ∷ []);
  } ∷ [];
  slow = record {
    log = deed (request 6 5 52) Accepted ∷ deed (request 7 6 53) (Counted 10) ∷ [];
    taker = taken id 1 to_slow;
    links = sender id 1 3 (told 1 (answer 6) ∷ entry 1 (Marked End) ∷ []) [] ∷ sender id 1 3 (entry 1 (Marked End) ∷ []) [] ∷ [];
  };
  -- 10 is taken after the closing mark; the sink refuses 2
  forwarders = record {
    went = record { item = out 1 1; took = true } ∷ record { item = out 2 2; took = false } ∷ record { item = answer 6; took = true } ∷ [];
    low = taken id 3 (told 0 (out 1 1) ∷ told 1 (answer 6) ∷ entry 2 (Marked Close) ∷ told 0 (out 10 10) ∷ entry 0 (Marked End) ∷ entry 1 (Marked End) ∷ entry 2 (Marked End) ∷ []);
    high = taken id 3 (told 0 (out 2 2) ∷ entry 2 (Marked Close) ∷ entry 0 (Marked End) ∷ entry 1 (Marked End) ∷ entry 2 (Marked End) ∷ []);
  } ∷ [];
  controller = sender id 2 3 (entry 2 (Marked Close) ∷ entry 2 (Marked End) ∷ []) [] ∷ sender id 2 3 (entry 2 (Marked Close) ∷ entry 2 (Marked End) ∷ []) [] ∷ [];
}

abbrev counts : TableId → (Count samples → Bool) → ℕ
counts id test = all_counts rules (views_of rules (workers id)) (slow_views rules (workers id)) (went_at (workers id)) test

-- one cause
abbrev pub is_cause : ℕ → Count samples → Bool
is_cause n (Dropped (Cause.Ruled c)) = c == n
is_cause n (Dropped Cause.ProcessorFull) = n == 12
is_cause n (Dropped Cause.LinkFull) = n == 13
is_cause n (Dropped Cause.AnswerFull) = n == 14
is_cause n (Dropped Cause.NoMemory) = n == 15
is_cause n (Dropped Cause.Closed) = n == 16
is_cause n (Dropped Cause.SendFailed) = n == 17
is_cause n (Dropped Cause.NoBuffer) = n == 18
is_cause n Received = false
is_cause n Sent = false
is_cause n Replied = false

-- at how many places the packet of a number stands
abbrev place : TableId → ℕ → ℕ
place id n = places {K = samples} (only_of 0 n) rules (views_of rules (workers id)) (slow_views rules (workers id))

pub record IsExample (id : TableId) : Type 0 where
  pub lawful : IsLawful rules (λ x. Unit {0})
  -- the laws' premises can be met
  pub ended : HaveEnded rules (workers id) (λ l. true)
  -- low and high, and what was swept
  pub low : (views_of rules (workers id)).handed (link_pipe rules false 0) ≡ out 1 1 ∷ answer 6 ∷ []
  pub high : (views_of rules (workers id)).handed (link_pipe rules true 0) ≡ out 2 2 ∷ []
  pub swept : (views_of rules (workers id)).swept (link_pipe rules false 0) ≡ out 10 10 ∷ []
  -- received, sent, answered, dropped
  pub sums : counts id is_received ∷ counts id is_sent ∷ counts id is_replied ∷ counts id is_dropped ∷ [] ≡ 11 ∷ 1 ∷ 1 ∷ 9 ∷ []
  -- for reasons 4, 6 and 10, and for causes 12 to 18
  pub causes : map (λ n. counts id (is_cause n)) (4 ∷ 6 ∷ 10 ∷ 12 ∷ 13 ∷ 14 ∷ 15 ∷ 16 ∷ 17 ∷ 18 ∷ []) ≡ 1 ∷ 1 ∷ 1 ∷ 1 ∷ 1 ∷ 1 ∷ 0 ∷ 1 ∷ 1 ∷ 1 ∷ []
  -- each of the eleven stands at one place, and no other
  pub places_each : map (place id) (1 ∷ 2 ∷ 3 ∷ 4 ∷ 5 ∷ 6 ∷ 7 ∷ 8 ∷ 9 ∷ 10 ∷ 11 ∷ 12 ∷ []) ≡ 1 ∷ 1 ∷ 1 ∷ 1 ∷ 1 ∷ 1 ∷ 1 ∷ 1 ∷ 1 ∷ 1 ∷ 1 ∷ 0 ∷ []
