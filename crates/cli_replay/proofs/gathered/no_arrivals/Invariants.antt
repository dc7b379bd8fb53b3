use Rattle.std.proofs.Common.{◌≡◌, [], length}
use Rattle.cli_replay.specs.Gathered.{AreOf}
use Rattle.cli_replay.proofs.gathered.no_arrivals.Given as goal

abbrev pub invariant-loop : goal.invariant-loop
invariant-loop l = (length l.lists.items ≡ l.counter) × AreOf l.fn.config [] 0 l.lists.items
