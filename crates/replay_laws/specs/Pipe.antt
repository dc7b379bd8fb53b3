-- A pipe, as the list of all that was ever pushed. It knows no ring.
use Rattle.std.specs.Prelude.{ℕ, Bool, ◌&&◌, ◌+◌, nat_lt, List, [], ◌∷◌, ◌++◌, map, length, take, drop, slice_get, Option}
use Rattle.std.specs.List.{list_any}
use Rattle.order_laws.specs.Kinds.{Kinds}
use Rattle.order_laws.specs.Item.{Item, Arrived, Packet, Request, Out}
use Rattle.replay_laws.specs.Marks.{is_end, has_close, before_close}
use Rattle.replay_laws.specs.Worker.{Worker, same_worker}

-- an item, with the worker that pushed it
pub record Entry (K : Kinds) : Type 0 where
  pub from : Worker
  pub item : Item K

-- a push that found the pipe full: of which packet, how many were pushed before, and how many of these taken
pub record Refusal : Type 0 where
  pub link : ℕ
  pub number : ℕ
  pub length : ℕ
  pub taken : ℕ

pub record Pipe (K : Kinds) : Type 0 where
  pub history : List (Entry K)  -- all that was ever pushed
  pub taken : ℕ  -- how many of these were taken
  pub capacity : ℕ
  pub refusals : List Refusal

module _ {K : Kinds} where
  abbrev pub items : List (Entry K) → List (Item K)
  items xs = map (λ e. e.item) xs

  abbrev pub held : Pipe K → List (Item K)
  held p = drop p.taken (items p.history)

  abbrev pub gone : Pipe K → List (Item K)
  gone p = take p.taken (items p.history)

  abbrev pub front : Pipe K → Option (Item K)
  front p = slice_get (items p.history) p.taken

  abbrev pub has_room : Pipe K → Bool
  has_room p = nat_lt (length (held p)) p.capacity

  -- the four changes

  abbrev pub pushed : Pipe K → Worker → Item K → Pipe K
  pushed p from x = record p { history = p.history ++ (record { from = from; item = x }) ∷ [] }

  abbrev pub one_taken : Pipe K → Pipe K
  one_taken p = record p { taken = p.taken + 1 }

  abbrev pub refused : Pipe K → Refusal → Pipe K
  refused p r = record p { refusals = p.refusals ++ r ∷ [] }

  -- what is noted of an item that is refused
  abbrev pub refusal_of : Item K → Pipe K → Refusal
  refusal_of (Arrived x) p = record { link = x.link; number = x.number; length = length p.history; taken = p.taken }
  refusal_of (Packet x) p = record { link = x.link; number = x.number; length = length p.history; taken = p.taken }
  refusal_of (Request x n) p = record { link = x.link; number = x.number; length = length p.history; taken = p.taken }
  refusal_of (Out o) p = record { link = o.arrived; number = o.number; length = length p.history; taken = p.taken }
  refusal_of _ p = record { link = 0; number = 0; length = length p.history; taken = p.taken }

  -- a closing mark was pushed
  abbrev pub is_marked : Pipe K → Bool
  is_marked p = has_close (items p.history)

  -- a closing mark was taken
  abbrev pub is_shut : Pipe K → Bool
  is_shut p = has_close (gone p)

  -- what was taken for sending: what comes after a mark is swept
  abbrev pub passed : Pipe K → List (Item K)
  passed p = before_close (gone p)

  -- the worker has pushed its end mark
  abbrev pub has_end_of : Worker → Pipe K → Bool
  has_end_of W p = list_any (λ e. is_end e.item && same_worker W e.from) p.history

  abbrev pub empty_pipe : ℕ → Pipe K
  empty_pipe capacity = record { history = []; taken = 0; capacity = capacity; refusals = [] }
