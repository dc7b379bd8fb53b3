-- Marks among items, and which items are of a packet.
use Rattle.std.specs.Prelude.{ℕ, Bool, true, false, ◌||◌, ◌+◌, if◌then◌else◌, List, [], ◌∷◌}
use Rattle.order_laws.specs.Kinds.{Kinds}
use Rattle.order_laws.specs.Item.{Item, Arrived, Packet, Request, Out, Close, End}

module _ {K : Kinds} where
  abbrev pub is_close : Item K → Bool
  is_close Close = true
  is_close (Arrived x) = false
  is_close (Packet x) = false
  is_close (Request x p) = false
  is_close (Out o) = false
  is_close End = false

  abbrev pub is_end : Item K → Bool
  is_end End = true
  is_end (Arrived x) = false
  is_end (Packet x) = false
  is_end (Request x p) = false
  is_end (Out o) = false
  is_end Close = false

  -- marks aside, an item is a packet, on one of its stages, or the answer to it: is it of those that are looked for?
  abbrev pub is_named : (ℕ → ℕ → Bool) → Item K → Bool
  is_named named (Arrived x) = named x.link x.number
  is_named named (Packet x) = named x.link x.number
  is_named named (Request x p) = named x.link x.number
  is_named named (Out o) = named o.arrived o.number
  is_named named Close = false
  is_named named End = false

  abbrev pub has_close : List (Item K) → Bool
  has_close [] = false
  has_close (x ∷ xs) = is_close x || has_close xs

  -- how many end marks
  abbrev pub ends : List (Item K) → ℕ
  ends [] = 0
  ends (x ∷ xs) = (if is_end x then 1 else 0) + ends xs

  -- what stands before the first closing mark
  abbrev pub before_close : List (Item K) → List (Item K)
  before_close [] = []
  before_close (x ∷ xs) = if is_close x then [] else x ∷ before_close xs

  -- what stands after the first closing mark
  abbrev pub after_close : List (Item K) → List (Item K)
  after_close [] = []
  after_close (x ∷ xs) = if is_close x then xs else after_close xs
