-- What the parts of the engine of `replay` do, where the reader's bytes are known.
use Rattle.std.specs.Prelude.{◌≡◌, ℕ, ◌+◌, ⊤, List, ◌++◌, length, Option, Some, None, Result, Ok, Err, take}
use Rattle.std.specs.Io.KnownBytes.{Appends}
use Rattle.std.specs.declared.alloc.Global.{Global}
use Rattle.std.specs.declared.vec.Vec.{Vec}
use Rattle.process_packet.specs.declared.arrival.Arrival.{Arrival as Came}
use Rattle.process_packet.specs.declared.config.Config.{Config}
use Rattle.router_rules.specs.Datagram.{Datagram}
use Rattle.pipe_model.specs.Pipeline.{Pipeline, stepped}
use Rattle.replay_steps.specs.declared.step.Step.{Step}
use Rattle.cli_replay.specs.Gathered.{AreGathered}
use Rattle.cli_replay.specs.Report.{report}
use Rattle.cli_replay.specs.StepLine.{step_of_line}
use Rattle.cli_io.specs.Told.{Told}
use Rattle.cli_io.specs.Lines.{Both}
use Rattle.cli_replay.specs.Replay.{arrivals_in, bad_step, after_arrivals, noted, or_stays, steps_text}
use Rattle.cli_io.specs.declared.fault.LinesFault.{LinesFault}
use Rattle.cli_io.specs.declared.fault.LinesFault.TheVariants as faults

-- ---- in front

-- the datagrams are those in front, and the lines left are those after them
abbrev pub AreFront : Config → Option (List (List ℕ)) → Option (List (List ℕ)) → List Datagram → Type 0
AreFront c known left ds = Both known left (λ all later. (arrivals_in c all ≡ ds) × (after_arrivals c all ≡ later))

-- what arrives is gathered, and the next line has number n
abbrev pub IsFront : Config → Option (List (List ℕ)) → Option (List (List ℕ)) → ℕ → List (Vec Came Global) → Type 0
IsFront c known left n lists = (ds : List Datagram) × AreGathered c ds lists × (n ≡ length ds + 1) × AreFront c known left ds

-- ---- steps

-- line n was a step, which was made or noted; or it was none
abbrev pub Acted : Result (Unit {0}) LinesFault → ℕ → Pipeline → List ℕ → Pipeline → Option (List ℕ) → Option (List ℕ) → Type 0
Acted (Ok done) n p line q old new = (s : Step) × (step_of_line p.config line ≡ Some s) × (q ≡ or_stays p (stepped p s)) × Appends old new (noted n (stepped p s))
Acted (Err (faults.Line m)) n p line q old new = (m ≡ n) × (step_of_line p.config line ≡ None) × (new ≡ old)
Acted (Err fault) n p line q old new = (s : Step) × (step_of_line p.config line ≡ Some s) × ((k : ℕ) × Appends old new (take k (noted n (stepped p s))))

-- all notes of the lines were written, and the report of what they led to is left to be written
abbrev pub RanOn : Result (Unit {0}) LinesFault → ℕ → Pipeline → List (List ℕ) → Pipeline → Option (List ℕ) → Option (List ℕ) → Type 0
RanOn (Ok done) n p lines q old new = (text : List ℕ) × Appends old new text × (steps_text n p lines ≡ text ++ report q) × (bad_step p.config n lines ≡ None)
RanOn (Err fault) n p lines q old new = Told (steps_text n p lines) (bad_step p.config n lines) (Err fault) old new

abbrev pub Ran : Result (Unit {0}) LinesFault → ℕ → Pipeline → Option (List (List ℕ)) → Pipeline → Option (List ℕ) → Option (List ℕ) → Type 0
Ran result n p None q old new = ⊤
Ran result n p (Some lines) q old new = RanOn result n p lines q old new
