-- Whose end marks were pushed.
use Rattle.std.specs.Prelude.{Bool, ◌&&◌, List}
use Rattle.std.specs.List.{list_any}
use Rattle.replay_laws.specs.Marks.{is_end}
use Rattle.replay_laws.specs.Pipe.{Entry}
use Rattle.replay_laws.specs.Worker.{Worker, same_worker}
use Rattle.router_rules.specs.Rules.{kinds}
use Rattle.replay_places.specs.WorkerIndex.{worker_of}
use Rattle.replay_places.specs.declared.worker_index.WorkerIndex.{WorkerIndex}

-- the worker's end mark was pushed, by the list of those whose was, and by the history
abbrev pub has_ended : List WorkerIndex → Worker → Bool
has_ended vs W = list_any (λ v. same_worker W (worker_of v)) vs

abbrev pub has_entry : List (Entry kinds) → Worker → Bool
has_entry xs W = list_any (λ e. is_end e.item && same_worker W e.from) xs
