-- Where each packet is.
use Rattle.std.specs.Prelude.{◌≡◌, ◌⊎◌, ℕ, Bool, ◌==◌, ◌+◌, ◌-◌, ◌/◌, ◌%◌, ◌<◌, ◌≤◌, nat_lt, if◌then◌else◌, List, [], ◌∷◌, ◌++◌, length, drop}
use Rattle.std.specs.List.{flat_map}
use Rattle.order_laws.specs.Kinds.{Kinds}
use Rattle.order_laws.specs.Item.{Outgoing, Item, is_one}
use Rattle.replay_laws.specs.Marks.{is_named}
use Rattle.replay_laws.specs.Worker.{Worker, Receiver, Processor, Slow, Forwarder}
use Rattle.replay_laws.specs.Pipe.{Pipe, held}
use Rattle.order_laws.specs.Rules.{Rules}
use Rattle.order_laws.specs.Fate.{Fate}
use Rattle.replay_laws.specs.World.{World, Hand, Empty, Got, Owes, pipe}
use Rattle.order_laws.specs.Cause.{Cause}
use Rattle.order_laws.specs.Pipes.{slow_seat}
use Rattle.replay_laws.specs.Start.{Reached, IsLawfulFor}

-- A pipe is named by its consumer.
pub data Place (K : Kinds) : Type 0 where
  InHand : Worker → Place K
  InPipe : Worker → Place K
  InHighPipe : ℕ → Place K
  Sent : Place K
  Answered : Place K
  Dropped : Cause K → Place K

module _ {K : Kinds} where
  -- the worker of a seat
  abbrev pub worker_at : Rules K → ℕ → Worker
  worker_at R j =
      if nat_lt j R.links then Receiver j else (
      if nat_lt j (slow_seat R) then Processor (j - R.links) else (if nat_lt (slow_seat R) j then Forwarder (j - (slow_seat R + 1)) else Slow)
      )

  -- the pipe at a place in the list
  abbrev pub link_place : ℕ → Place K
  link_place k = if k % 2 == 0 then InPipe (Forwarder (k / 2)) else InHighPipe (k / 2)

  abbrev pub place_at : Rules K → ℕ → Place K
  place_at R q =
      if nat_lt q (slow_seat R) then InPipe (Processor (q - R.links)) else (if nat_lt (slow_seat R) q then link_place (q - (slow_seat R + 1)) else InPipe Slow)

  abbrev pub here_if : Bool → Place K → List (Place K)
  here_if b p = if b then p ∷ [] else []

  abbrev pub in_hand : (ℕ → ℕ → Bool) → Place K → Hand K → List (Place K)
  in_hand named p Empty = []
  in_hand named p (Got x) = here_if (is_named named x) p
  in_hand named p (Owes x) = here_if (is_named named x) p

  abbrev pub in_pipe : (ℕ → ℕ → Bool) → Place K → List (Item K) → List (Place K)
  in_pipe named p xs = flat_map (λ x. here_if (is_named named x) p) xs

  abbrev pub in_hands : Rules K → (ℕ → ℕ → Bool) → ℕ → List (Hand K) → List (Place K)
  in_hands R named j [] = []
  in_hands R named j (h ∷ hs) = in_hand named (InHand (worker_at R j)) h ++ in_hands R named (j + 1) hs

  abbrev pub in_pipes : Rules K → (ℕ → ℕ → Bool) → ℕ → List (Pipe K) → List (Place K)
  in_pipes R named q [] = []
  in_pipes R named q (p ∷ ps) = in_pipe named (place_at R q) (held p) ++ in_pipes R named (q + 1) ps

  abbrev pub in_sent : (ℕ → ℕ → Bool) → List (Outgoing K) → List (Place K)
  in_sent named os = flat_map (λ o. here_if (named o.arrived o.number) (if o.answer then Answered else Sent)) os

  abbrev pub in_fates : (ℕ → ℕ → Bool) → List (Fate K) → List (Place K)
  in_fates named F = flat_map (λ f. here_if (named f.link f.number) (Dropped f.cause)) F

  -- the places of all packets that are looked for, one for each at which it stands. What isn't received yet stands at none
  abbrev pub places_of : Rules K → (ℕ → ℕ → Bool) → World K → List (Place K)
  places_of R named w =
      in_hands R named 0 w.hands ++ in_pipes R named R.links (drop R.links w.pipes) ++ flat_map (in_sent named) w.sent ++ in_fates named w.fates

  -- each place at which the packet n of link a stands
  abbrev pub places : Rules K → ℕ → ℕ → World K → List (Place K)
  places R a n w = places_of R (is_one a n) w

  -- how many packets of link a were received
  abbrev pub received_of : World K → ℕ → ℕ
  received_of w a = (pipe w a).taken

-- Each received packet is at exactly one place, and no other at any.
pub record IsPlaced {K : Kinds} (R : Rules K) (w : World K) : Type 0 where
  pub once : (a n : ℕ) → a < R.links → 1 ≤ n → n ≤ received_of w a → length (places R a n w) ≡ 1
  pub nowhere : (a n : ℕ) → (R.links ≤ a) ⊎ ((n ≡ 0) ⊎ (received_of w a < n)) → places R a n w ≡ []

abbrev pub KeepsPlace : Kinds → Type 0
KeepsPlace K = (R : Rules K) (w : World K) (r : Reached R w) → IsLawfulFor R w r → IsPlaced R w
