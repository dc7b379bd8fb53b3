-- What a pipe keeps, and which history it tells of.
use Rattle.std.specs.Prelude.{◌≡◌, ◌≤◌, ℕ, List, length, slice_index_or, take}
use Rattle.replay_laws.specs.Marks.{ends, has_close}
use Rattle.replay_laws.specs.Pipe.{Pipe, empty_pipe, items}
use Rattle.replay_laws.specs.Worker.{Worker}
use Rattle.router_rules.specs.Rules.{kinds}
use Rattle.replay_state.specs.Ended.{has_ended, has_entry}
use Rattle.replay_state.specs.declared.pipe.Pipe.TheInside.{Inside}

abbrev pub history_of : Inside → Pipe kinds
history_of p = record { history = p.history.items; taken = p.taken; capacity = p.capacity; refusals = p.refusals.items }

pub record IsKept (p : Inside) : Type 0 where
  pub within : p.taken ≤ length p.history.items
  pub marked : p.marked ≡ has_close (items p.history.items)
  pub shut : p.shut ≡ has_close (take p.taken (items p.history.items))
  pub ended : (W : Worker) → has_ended p.ended.items W ≡ has_entry p.history.items W
  pub ends : p.ends ≡ ends (take p.taken (items p.history.items))

-- one that isn't there is empty, and has no room
abbrev pub pipe_at : List (Pipe kinds) → ℕ → Pipe kinds
pipe_at ps q = slice_index_or ps q (empty_pipe 0)
