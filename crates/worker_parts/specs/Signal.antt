-- The words that tell threads what to do.
use Rattle.std.specs.Prelude.{ℕ, ◌==◌, if◌then◌else◌}
use Rattle.worker_parts.specs.declared.signal.Signal.{Signal}
use Rattle.worker_parts.specs.declared.signal.Signal.TheVariants.{Hold, Run, Stop, GiveUp}

abbrev pub word_of : Signal → ℕ
word_of Hold = 0
word_of Stop = 1
word_of Run = 2
word_of GiveUp = 3

-- a word that is no signal's lets threads run
abbrev pub signal_of : ℕ → Signal
signal_of n = if n == 0 then Hold else (if n == 1 then Stop else (if n == 3 then GiveUp else Run))
