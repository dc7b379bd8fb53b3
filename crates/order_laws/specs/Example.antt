-- Small cases: where items go, and what a run that has ended tells.
use Rattle.std.specs.Prelude.{◌≡◌, ℕ, Bool, true, false, ◌&&◌, ◌==◌, if◌then◌else◌, List, [], ◌∷◌, map, None}
use Rattle.std.specs.List.{flat_map}
use Rattle.order_laws.specs.Kinds.{Kinds}
use Rattle.order_laws.specs.Item.{Arrival, Outgoing, Packet, Request, Out}
use Rattle.order_laws.specs.Rules.{Rules, Sends, Asks, Replies, IsLawful}
use Rattle.order_laws.specs.Pipes.{home, link_pipe}
use Rattle.order_laws.specs.Deeds.{Deed, Accepted, Refused, Lacked, accepted, refused}
use Rattle.order_laws.specs.Settled.{Views, to_link, dropped}
use Rattle.order_laws.specs.Counted.{unsent}

pub record Sample : Type 0 where
  pub flow : ℕ
  pub urgent : Bool
  pub faulty : Bool

abbrev pub samples : Kinds
samples = record { Datagram = Sample; Parcel = Sample; Problem = ℕ; RuleCause = ℕ; Key = ℕ }

-- four links, of which the third may have two bands, and two processors; all goes to the third link, but what is faulty is
-- answered on the link that it came by
abbrev pub rules : Bool → Rules samples
rules banded = record {
  links = 4;
  processors = 2;
  two_bands = λ l. banded && (l == 2);
  inspect = λ x. None;
  decide = λ x. if x.datagram.faulty then Asks 52 else Sends (if x.link == 2 then 1 else 2) x.datagram;
  reply = λ x p. Replies (if x.link == 1 then 1 else 0) x.datagram;
  key = λ x. x.datagram.flow;
  same_key = λ k m. k == m;
  processor = λ k. if k == 0 then 0 else 1;
  urgent = λ x. x.datagram.urgent;
  urgent_parcel = λ y. y.urgent;
}

-- the rules of the examples are lawful, whatever arrives
abbrev pub Lawful : Type 0
Lawful = (banded : Bool) → IsLawful (rules banded) (λ x. Unit {0})

abbrev pub plain : Sample
plain = record { flow = 0; urgent = false; faulty = false }

abbrev pub other_flow : Sample
other_flow = record { flow = 1; urgent = false; faulty = false }

abbrev pub expedited : Sample
expedited = record { flow = 0; urgent = true; faulty = false }

abbrev pub expired : Sample
expired = record { flow = 0; urgent = false; faulty = true }

abbrev came : ℕ → Sample → Arrival samples
came n d = record { link = 1; number = n; datagram = d }

abbrev left : ℕ → Sample → Outgoing samples
left n d = record { arrived = 1; number = n; answer = false; link = 2; parcel = d }

-- a packet goes to its flow's processor whatever its number, what is answered to the slow path, and what leaves into the pipe
-- of its band, where the link has two
abbrev pub Homes : Type 0
Homes =
    (home (rules false) (Packet (came 1 plain)) ≡ 4) × (home (rules false) (Packet (came 2 other_flow)) ≡ 5) ×
    (home (rules false) (Request (came 1 expired) 52) ≡ 6) × (home (rules true) (Out (left 1 plain)) ≡ 11) ×
    (home (rules true) (Out (left 1 expedited)) ≡ 12) × (home (rules false) (Out (left 1 expedited)) ≡ 11)

-- of four packets that a processor of the running pipeline took, one was pushed and handed on, one refused, one lacked memory,
-- and one was pushed and swept
abbrev worked : List (Deed ℕ (Arrival samples))
worked =
    record { item = came 1 plain; end = Accepted } ∷ record { item = came 2 plain; end = Refused } ∷ record { item = came 3 plain; end = Lacked } ∷
    record { item = came 4 plain; end = Accepted } ∷ []

-- the receiver pushed all of them
abbrev told_all : List (Deed ℕ (Arrival samples))
told_all = map (λ (d : Deed ℕ (Arrival samples)). record { item = d.item; end = Accepted }) worked

abbrev ended : Views samples
ended = record {
  received = λ a. told_all;
  arrived = λ a i. [];
  arrived_full = λ a i. [];
  taken = λ i. [];
  worked = λ i. worked;
  leaving = λ i q. [];
  leaving_full = λ i q. left 2 plain ∷ [];
  asked = λ i. [];
  asked_full = λ i. [];
  forwarded = λ q. [];
  handed = λ q. left 1 plain ∷ [];
  swept = λ q. left 4 plain ∷ [];
  shut = λ q. true;
}

abbrev into_link : Arrival samples → List (Outgoing samples)
into_link = to_link (rules false) (link_pipe (rules false) false 2)

abbrev any_packet : Arrival samples → Bool
any_packet x = true

abbrev pub Ends : Type 0
Ends =
    (map (λ (o : Outgoing samples). o.number) (flat_map (accepted into_link) worked) ≡ 1 ∷ 4 ∷ []) ×
    (map (λ (o : Outgoing samples). o.number) (flat_map (refused into_link) worked) ≡ 2 ∷ []) ×
    (unsent worked ≡ 1) ×
    (dropped (rules false) ended 1 2 (link_pipe (rules false) false 2) 0 any_packet ≡ 2 ∷ 3 ∷ 4 ∷ [])
