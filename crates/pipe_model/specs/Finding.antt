-- Whether a packet that is looked for is in a hand or in a pipe.
use Rattle.std.specs.Prelude.{ℕ, Bool, false, drop, List}
use Rattle.std.specs.List.{list_any}
use Rattle.replay_laws.specs.Marks.{is_named}
use Rattle.replay_laws.specs.Pipe.{Entry, Pipe}
use Rattle.replay_laws.specs.World.{Hand, Empty, Got, Owes}
use Rattle.router_rules.specs.Rules.{kinds}

abbrev pub has_in_hand : (ℕ → ℕ → Bool) → Hand kinds → Bool
has_in_hand named Empty = false
has_in_hand named (Got x) = is_named named x
has_in_hand named (Owes x) = is_named named x

abbrev pub is_among : (ℕ → ℕ → Bool) → List (Entry kinds) → Bool
is_among named es = list_any (λ e. is_named named e.item) es

abbrev pub has_in_pipe : (ℕ → ℕ → Bool) → Pipe kinds → Bool
has_in_pipe named p = is_among named (drop p.taken p.history)
