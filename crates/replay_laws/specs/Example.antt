-- Small runs: a full queue, a closed link, two processors, an answer, two bands, what is lacking, end marks.
use Rattle.std.specs.Prelude.{◌≡◌, ℕ, Bool, true, false, List, [], ◌∷◌, ◌++◌, map, slice_index_or}
use Rattle.order_laws.specs.Item.{Arrived}
use Rattle.replay_laws.specs.Worker.{Receiver, Processor, Slow, Forwarder, Controller, Of, High}
use Rattle.replay_laws.specs.Pipe.{Entry, empty_pipe}
use Rattle.order_laws.specs.Example.{Sample, samples, rules, plain, other_flow, expedited, expired}
use Rattle.order_laws.specs.Fate.{Fate}
use Rattle.replay_laws.specs.World.{World, pipe}
use Rattle.order_laws.specs.Cause.{Cause}
use Rattle.replay_laws.specs.Step.{Step}
use Rattle.replay_laws.specs.Run.{run, skipped_from}
use Rattle.replay_laws.specs.Start.{first_world}
use Rattle.replay_laws.specs.Place.{InPipe, Dropped, places}
use Rattle.replay_laws.specs.Totals.{received_count, sent_count, answered_count, waiting_count}

abbrev arrived : ℕ → Sample → Entry samples
arrived n d = record { from = Receiver 1; item = Arrived (record { link = 1; number = n; datagram = d }) }

-- link 1 has arrivals, the others none
abbrev begun : Bool → ℕ → List (Entry samples) → World samples
begun banded capacity xs = first_world (rules banded) capacity (empty_pipe 0 ∷ (record { history = xs; taken = 0; capacity = 0; refusals = [] }) ∷ empty_pipe 0 ∷ empty_pipe 0 ∷ [])

abbrev numbers_sent : World samples → ℕ → List ℕ
numbers_sent w l = map (λ o. o.number) (slice_index_or w.sent l [])

abbrev fate : ℕ → Cause samples → Fate samples
fate n c = record { link = 1; number = n; cause = c }

-- received, sent, answered, waiting
abbrev counts : Bool → World samples → List ℕ
counts banded w = received_count (rules banded) w ∷ sent_count w ∷ answered_count w ∷ waiting_count (rules banded) w ∷ []

-- a packet is received and offered, taken, decided and offered, taken and sent
abbrev arrive : List Step
arrive = Step.Receive 1 ∷ Step.Offer (Receiver 1) ∷ []

abbrev process : ℕ → List Step
process i = Step.Take (Of (Processor i)) ∷ Step.Route i ∷ Step.Offer (Processor i) ∷ []

abbrev forward : ℕ → Bool → List Step
forward l ok = Step.Take (Of (Forwarder l)) ∷ Step.Send l ok ∷ []

-- of three packets the second finds the processor's pipe full
abbrev full_queue : World samples
full_queue =
    run (rules false) (begun false 1 (arrived 1 plain ∷ arrived 2 plain ∷ arrived 3 plain ∷ []))
    (arrive ++ (Step.Receive 1 ∷ Step.Refuse (Receiver 1) ∷ []) ++ process 0 ++ arrive ++ forward 2 true ++ process 0 ++ forward 2 true)

abbrev pub FullQueue : Type 0
FullQueue =
    (numbers_sent full_queue 2 ≡ 1 ∷ 3 ∷ []) × (full_queue.fates ≡ fate 2 Cause.ProcessorFull ∷ []) ×
    (counts false full_queue ≡ 3 ∷ 2 ∷ 0 ∷ 0 ∷ []) × ((pipe full_queue 4).refusals ≡ (record { link = 1; number = 2; length = 1; taken = 0 }) ∷ [])

-- between two packets the link is closed: a second mark isn't possible, nor a take after it
abbrev closing : List Step
closing =
    arrive ++ process 0 ++ (Step.Close (Of (Forwarder 2)) ∷ Step.Close (Of (Forwarder 2)) ∷ []) ++ arrive ++ process 0 ++
    forward 2 true ++ (Step.Take (Of (Forwarder 2)) ∷ Step.Take (Of (Forwarder 2)) ∷ Step.Sweep (Of (Forwarder 2)) ∷ [])

abbrev two_plain : World samples
two_plain = begun false 4 (arrived 1 plain ∷ arrived 2 plain ∷ [])

abbrev pub ClosedLink : Type 0
ClosedLink =
    (skipped_from (rules false) two_plain 0 closing ≡ 6 ∷ 15 ∷ []) × (numbers_sent (run (rules false) two_plain closing) 2 ≡ 1 ∷ []) ×
    ((run (rules false) two_plain closing).fates ≡ fate 2 Cause.Closed ∷ []) × (counts false (run (rules false) two_plain closing) ≡ 2 ∷ 1 ∷ 0 ∷ 0 ∷ [])

-- packets of two flows overtake one another; the sink refuses the first
abbrev two_flows : World samples
two_flows =
    run (rules false) (begun false 4 (arrived 1 plain ∷ arrived 2 other_flow ∷ []))
    (arrive ++ arrive ++ process 1 ++ process 0 ++ forward 2 true ++ forward 2 false)

abbrev pub TwoFlows : Type 0
TwoFlows = (numbers_sent two_flows 2 ≡ 2 ∷ []) × (two_flows.fates ≡ fate 1 Cause.SendFailed ∷ [])

-- of two faulty packets the second finds the slow path's pipe full
abbrev full_slow_path : World samples
full_slow_path =
    run (rules false) (begun false 1 (arrived 1 expired ∷ arrived 2 expired ∷ []))
    (arrive ++ process 0 ++ arrive ++ (Step.Take (Of (Processor 0)) ∷ Step.Route 0 ∷ Step.Refuse (Processor 0) ∷ []))

-- a faulty packet is answered
abbrev answering : List Step
answering = arrive ++ process 0 ++ (Step.Take (Of Slow) ∷ Step.Answer ∷ Step.Offer Slow ∷ []) ++ forward 1 true

abbrev one_faulty : World samples
one_faulty = begun false 4 (arrived 1 expired ∷ [])

abbrev pub Answers : Type 0
Answers =
    (numbers_sent (run (rules false) one_faulty answering) 1 ≡ 1 ∷ []) × (counts false (run (rules false) one_faulty answering) ≡ 1 ∷ 0 ∷ 1 ∷ 0 ∷ []) ×
    (places (rules false) 1 1 (run (rules false) one_faulty (arrive ++ process 0)) ≡ InPipe Slow ∷ []) ×
    (full_slow_path.fates ≡ fate 2 Cause.AnswerFull ∷ [])

-- the urgent packet, which arrived second, leaves first: without a look at the high pipe the low one isn't taken from, the
-- high one isn't seen empty while it holds a packet, and each take uses the look up
abbrev both_bands : List Step
both_bands =
    arrive ++ arrive ++ arrive ++ process 0 ++ process 0 ++ process 0 ++
    (Step.Take (Of (Forwarder 2)) ∷ Step.Look 2 ∷ Step.Take (High 2) ∷ Step.Send 2 true ∷ Step.Look 2 ∷ []) ++ forward 2 true ++ forward 2 true

abbrev two_urgent : World samples
two_urgent = begun true 8 (arrived 1 plain ∷ arrived 2 expedited ∷ arrived 3 plain ∷ [])

abbrev pub TwoBands : Type 0
TwoBands = (skipped_from (rules true) two_urgent 0 both_bands ≡ 15 ∷ 16 ∷ 22 ∷ 23 ∷ []) × (numbers_sent (run (rules true) two_urgent both_bands) 2 ≡ 2 ∷ 1 ∷ [])

-- want of a buffer and want of memory
abbrev lacking : World samples
lacking =
    run (rules false) (begun false 4 (arrived 1 plain ∷ arrived 2 plain ∷ []))
    ((Step.Receive 1 ∷ Step.NoBuffer 1 ∷ []) ++ arrive ++ (Step.Take (Of (Processor 0)) ∷ Step.Lack (Processor 0) ∷ []))

abbrev pub Lacks : Type 0
Lacks = (lacking.fates ≡ fate 1 Cause.NoBuffer ∷ fate 2 Cause.NoMemory ∷ []) × (places (rules false) 1 2 lacking ≡ Dropped Cause.NoMemory ∷ [])

-- each worker's end mark goes to each pipe that it feeds once, and not before the marks of those that feed it
abbrev end_all : ℕ → List Step
end_all i = Step.End (Receiver 0) (Of (Processor i)) ∷ Step.End (Receiver 1) (Of (Processor i)) ∷ Step.End (Receiver 2) (Of (Processor i)) ∷ Step.End (Receiver 3) (Of (Processor i)) ∷ []

abbrev marks : List Step
marks =
    (Step.End (Processor 0) (Of Slow) ∷ []) ++ end_all 0 ++ (Step.End (Receiver 0) (Of (Processor 0)) ∷ Step.End (Receiver 0) (Of Slow) ∷ []) ++
    (Step.Take (Of (Processor 0)) ∷ Step.Take (Of (Processor 0)) ∷ Step.Take (Of (Processor 0)) ∷ Step.Take (Of (Processor 0)) ∷ []) ++
    (Step.End (Processor 0) (Of Slow) ∷ Step.End (Processor 0) (High 2) ∷ Step.End (Processor 0) (High 1) ∷ []) ++
    (Step.End Controller (Of (Forwarder 2)) ∷ Step.Close (Of (Forwarder 2)) ∷ Step.Close (High 2) ∷ Step.Close (High 2) ∷ []) ++
    (Step.Take (High 2) ∷ Step.Take (High 2) ∷ Step.Take (High 2) ∷ [])

abbrev pub MarksOnce : Type 0
MarksOnce = skipped_from (rules true) (begun true 8 []) 0 marks ≡ 0 ∷ 5 ∷ 6 ∷ 13 ∷ 15 ∷ 17 ∷ 20 ∷ []
