-- How a world begins, and which worlds are reached.
use Rattle.std.specs.Prelude.{◌≡◌, ◌<◌, ◌≤◌, ℕ, ◌+◌, ◌*◌, false, List, [], ◌∷◌, ◌++◌, length, replicate, slice_index_or}
use Rattle.std.specs.List.{Contains}
use Rattle.order_laws.specs.Kinds.{Kinds}
use Rattle.order_laws.specs.Item.{Arrival, Item, Arrived}
use Rattle.replay_laws.specs.Pipe.{Pipe, items, empty_pipe}
use Rattle.order_laws.specs.Rules.{Rules, IsLawful}
use Rattle.replay_laws.specs.World.{World, Empty, seat_count, hand, pipe, has_looked}
use Rattle.order_laws.specs.Pipes.{pipe_count}
use Rattle.replay_laws.specs.Step.{Step}
use Rattle.replay_laws.specs.Run.{run}

module _ {K : Kinds} where
  -- arrivals of link a, numbered from n
  abbrev pub Numbered : ℕ → ℕ → List (Item K) → Type 0
  Numbered a n [] = Unit {0}
  Numbered a n (Arrived x ∷ xs) = (x.link ≡ a) × (x.number ≡ n) × Numbered a (n + 1) xs
  Numbered a n (Item.Packet x ∷ xs) = ⊥
  Numbered a n (Item.Request x p ∷ xs) = ⊥
  Numbered a n (Item.Out o ∷ xs) = ⊥
  Numbered a n (Item.Close ∷ xs) = ⊥
  Numbered a n (Item.End ∷ xs) = ⊥

  -- all that arrives on link a, received or not
  abbrev pub arrivals : World K → ℕ → List (Item K)
  arrivals w a = items (pipe w a).history

  abbrev pub HasArrival : World K → Arrival K → Type 0
  HasArrival w x = Contains (arrivals w x.link) (Arrived x)

-- Nothing is received yet: each receiver has its link's arrivals before it, all else is empty.
pub record IsStart {K : Kinds} (R : Rules K) (w : World K) : Type 0 where
  pub hand_count : length w.hands ≡ seat_count R
  pub pipe_count : length w.pipes ≡ pipe_count R
  pub sent_count : length w.sent ≡ R.links
  pub hands : (j : ℕ) → hand w j ≡ Empty
  pub taken : (q : ℕ) → (pipe w q).taken ≡ 0
  pub numbered : (a : ℕ) → a < R.links → Numbered a 1 (arrivals w a)
  pub empty : (q : ℕ) → R.links ≤ q → (pipe w q).history ≡ []
  pub refusals : (q : ℕ) → (pipe w q).refusals ≡ []
  pub looks : (l : ℕ) → has_looked w l ≡ false
  pub fates : w.fates ≡ []
  pub sent : (l : ℕ) → slice_index_or w.sent l [] ≡ []

-- a world that some steps lead to
pub record Reached {K : Kinds} (R : Rules K) (w : World K) : Type 0 where
  pub start : World K
  pub steps : List Step
  pub is_start : IsStart R start
  pub by_steps : w ≡ run R start steps

module _ {K : Kinds} where
  -- the rules are lawful for what arrives in the run
  abbrev pub IsLawfulFor : (R : Rules K) (w : World K) → Reached R w → Type 0
  IsLawfulFor R w r = IsLawful R (HasArrival r.start)

  -- the arrivals of link a, none of them received
  abbrev pub IsSource : ℕ → Pipe K → Type 0
  IsSource a p = (p.taken ≡ 0) × (p.refusals ≡ []) × Numbered a 1 (items p.history)

  abbrev pub AreSources : ℕ → List (Pipe K) → Type 0
  AreSources a [] = Unit {0}
  AreSources a (p ∷ ps) = IsSource a p × AreSources (a + 1) ps

  -- The first world, with the arrivals of each link.
  abbrev pub first_world : Rules K → (capacity : ℕ) → List (Pipe K) → World K
  first_world R capacity sources = record {
    hands = replicate (seat_count R) Empty;
    pipes = sources ++ replicate (R.processors + 1 + 2 * R.links) (empty_pipe capacity);
    looks = replicate R.links false;
    fates = [];
    sent = replicate R.links [];
  }

abbrev pub Begins : Kinds → Type 0
Begins K = (R : Rules K) (capacity : ℕ) (sources : List (Pipe K)) → length sources ≡ R.links → AreSources 0 sources → IsStart R (first_world R capacity sources)

-- Some steps more lead on from the same start.
abbrev pub ReachesOn : Kinds → Type 0
ReachesOn K = (R : Rules K) (w : World K) (ss : List Step) (r : Reached R w) → (q : Reached R (run R w ss)) × (q.start ≡ r.start) × (q.steps ≡ r.steps ++ ss)
