-- The order of packets.
use Rattle.std.specs.Prelude.{◌≡◌, ℕ, Bool, false, ◌&&◌, not, ◌<◌, List, [], ◌++◌}
use Rattle.std.specs.List.{flat_map}
use Rattle.order_laws.specs.Kinds.{Kinds}
use Rattle.order_laws.specs.Item.{Arrival}
use Rattle.order_laws.specs.Departures.{sends_of, numbers_of}
use Rattle.replay_laws.specs.Pipe.{items, passed}
use Rattle.order_laws.specs.Rules.{Rules}
use Rattle.replay_laws.specs.World.{World, pipe}
use Rattle.order_laws.specs.Pipes.{link_pipe}
use Rattle.replay_laws.specs.Start.{arrivals, Reached, IsLawfulFor}
use Rattle.order_laws.specs.Expected.{Departure, Flow, expected, is_of, has_key}
use Rattle.order_laws.specs.Less.{less}

module _ {K : Kinds} where
  abbrev pub IsPrefixOf : List (Departure K) → List (Departure K) → Type 0
  IsPrefixOf xs ys = (rest : List (Departure K)) × (ys ≡ xs ++ rest)

  -- what was taken for sending from pipe q of some arrivals of link a is a beginning of what the sequential router sends of
  -- them on link l, less the dropped
  abbrev pub LeavesInOrder : Rules K → World K → (a l q : ℕ) → (Arrival K → Bool) → Type 0
  LeavesInOrder R w a l q mine =
      IsPrefixOf
      (flat_map (sends_of a (numbers_of mine (arrivals w a))) (passed (pipe w q)))
      (less w.fates a (expected R mine l (arrivals w a)))

  -- nothing of some arrivals of link a was ever pushed to pipe q
  abbrev pub NeverIn : World K → (a q : ℕ) → (Arrival K → Bool) → Type 0
  NeverIn w a q mine = flat_map (sends_of a (numbers_of mine (arrivals w a))) (items (pipe w q).history) ≡ []

pub record InOrder {K : Kinds} (R : Rules K) (w : World K) : Type 0 where
  -- on a link with two bands the packets of a flow go through the pipe of its band
  pub of_flow : (a : ℕ) (f : Flow K) (l : ℕ) → a < R.links → l < R.links → LeavesInOrder R w a l (link_pipe R (R.two_bands l && f.urgent) l) (is_of R f)
  pub one_pipe : (a : ℕ) (f : Flow K) (l : ℕ) → a < R.links → l < R.links → NeverIn w a (link_pipe R (not (R.two_bands l && f.urgent)) l) (is_of R f)
  -- on a link with one band the order holds of all of a key
  pub of_key : (a : ℕ) (k : K.Key) (l : ℕ) → a < R.links → l < R.links → R.two_bands l ≡ false → LeavesInOrder R w a l (link_pipe R false l) (has_key R k)

-- After any list of steps the packets of each link and flow leave in the order of their arrival.
abbrev pub KeepsOrder : Kinds → Type 0
KeepsOrder K = (R : Rules K) (w : World K) (r : Reached R w) → IsLawfulFor R w r → InOrder R w
