-- What `replay` writes for the lines that it reads: in front the lines that tell what arrives, then the steps.
use Rattle.std.specs.Prelude.{ℕ, ◌+◌, List, [], ◌∷◌, ◌++◌, length, Option, Some, None, Result}
use Rattle.process_packet.specs.declared.config.Config.{Config}
use Rattle.router_rules.specs.Datagram.{Datagram}
use Rattle.pipe_model.specs.Pipeline.{Pipeline, stepped}
use Rattle.replay_steps.specs.declared.step.Step.{Step}
use Rattle.cli_replay.specs.ArriveLine.{datagram_of_line}
use Rattle.cli_replay.specs.Gathered.{starting}
use Rattle.cli_replay.specs.Report.{not_now_text, report}
use Rattle.cli_replay.specs.StepLine.{step_of_line}
use Rattle.cli_io.specs.Told.{Told, bad_or}
use Rattle.cli_io.specs.Lines.{lines_of}
use Rattle.cli_io.specs.declared.fault.LinesFault.{LinesFault}

-- ---- what arrives

abbrev pub arrival_then : Option Datagram → List Datagram → List Datagram
arrival_then None later = []
arrival_then (Some d) later = d ∷ later

-- the datagrams of the lines in front that tell of one
unfoldable pub arrivals_in : Config → List (List ℕ) → List Datagram
arrivals_in c [] = []
arrivals_in c (line ∷ lines) = arrival_then (datagram_of_line c line) (arrivals_in c lines)

abbrev pub after_then : Option Datagram → List (List ℕ) → List (List ℕ) → List (List ℕ)
after_then None here later = here
after_then (Some d) here later = later

-- the lines after them
unfoldable pub after_arrivals : Config → List (List ℕ) → List (List ℕ)
after_arrivals c [] = []
after_arrivals c (line ∷ lines) = after_then (datagram_of_line c line) (line ∷ lines) (after_arrivals c lines)

-- ---- the steps

-- a step that isn't possible changes nothing
abbrev pub or_stays : Pipeline → Option Pipeline → Pipeline
or_stays p None = p
or_stays p (Some q) = q

-- and is noted by the number of its line
abbrev pub noted : ℕ → Option Pipeline → List ℕ
noted n None = not_now_text n
noted n (Some q) = []

abbrev pub step_then : ℕ → Pipeline → Option Step → (Pipeline → List ℕ) → List ℕ
step_then n p None later = []
step_then n p (Some s) later = noted n (stepped p s) ++ later (or_stays p (stepped p s))

-- what is noted of the lines, of which the first has number n, and then the report; nothing from the first line on that is no step
unfoldable pub steps_text : ℕ → Pipeline → List (List ℕ) → List ℕ
steps_text n p [] = report p
steps_text n p (line ∷ lines) = step_then n p (step_of_line p.config line) (λ q. steps_text (n + 1) q lines)

-- the number of that line
unfoldable pub bad_step : Config → ℕ → List (List ℕ) → Option ℕ
bad_step c n [] = None
bad_step c n (line ∷ lines) = bad_or (step_of_line c line) n (bad_step c (n + 1) lines)

-- ---- all of it

-- the number of the first line after the arrivals
abbrev pub first_step : Config → List (List ℕ) → ℕ
first_step c lines = length (arrivals_in c lines) + 1

abbrev pub replay_text : Config → List (List ℕ) → List ℕ
replay_text c lines = steps_text (first_step c lines) (starting c (arrivals_in c lines)) (after_arrivals c lines)

abbrev pub bad_replay_line : Config → List (List ℕ) → Option ℕ
bad_replay_line c lines = bad_step c (first_step c lines) (after_arrivals c lines)

abbrev pub Replayed : Config → Result (Unit {0}) LinesFault → List ℕ → Option (List ℕ) → Option (List ℕ) → Type 0
Replayed c result input old new = Told (replay_text c (lines_of input)) (bad_replay_line c (lines_of input)) result old new
