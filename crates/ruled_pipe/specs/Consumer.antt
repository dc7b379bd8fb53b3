-- What contracts see of the consumer, and its two steps.
use Rattle.std.specs.Prelude.{ℕ, List, [], ◌∷◌, ◌++◌, length}
use Rattle.atomic_table.specs.Seated.{TableId}
use Rattle.ruled_pipe.specs.declared.entry.Entry.{Entry}

-- the consumer: its pipe, the number of producers, the pipe's capacity, what it took, and for each empty look how many it had taken before
pub record Taker (T : Type 0) : Type 0 where
  pub pipe : TableId
  pub producers : ℕ
  pub capacity : ℕ
  pub taken : List (Entry T)
  pub looks : List ℕ

module _ {T : Type 0} where
  -- the consumer after a take, and after an empty look
  abbrev pub took : Taker T → Entry T → Taker T
  took c e = record { pipe = c.pipe; producers = c.producers; capacity = c.capacity; taken = c.taken ++ e ∷ []; looks = c.looks }

  abbrev pub looked : Taker T → Taker T
  looked c = record { pipe = c.pipe; producers = c.producers; capacity = c.capacity; taken = c.taken; looks = c.looks ++ length c.taken ∷ [] }

  -- the consumer of a new pipe
  abbrev pub new_taker : TableId → ℕ → ℕ → Taker T
  new_taker pipe producers capacity = record { pipe = pipe; producers = producers; capacity = capacity; taken = []; looks = [] }
