-- The line of a replay that is a step.
use Rattle.std.specs.Prelude.{ℕ, Bool, true, false, if◌then◌else◌, List, Option, Some, None, codes, option_map}
use Rattle.std.specs.Str.{bytes_eq}
use Rattle.replay_places.specs.Worker.{queue_in, worker_in}
use Rattle.replay_places.specs.declared.queue.Queue.{Queue}
use Rattle.replay_steps.specs.declared.step.Step.{Step}
use Rattle.replay_steps.specs.declared.step.Step.TheVariants as step
use Rattle.router_rules.specs.declared.worker.Worker.{Worker}
use Rattle.replay_laws.specs.Next.{feeds}
use Rattle.process_packet.specs.declared.config.Config.{Config}
use Rattle.text_values.specs.Pieces.{split_once, ◌>>=◌}
use Rattle.cli_replay.specs.Names.{high_link_of, link_of, link_queue_of, processor_of, queue_of, worker_of}
use Rattle.cli_io.specs.Text.{as_text}
use Rattle.cli_replay.specs.declared.step_line.Verb.{Verb}
use Rattle.cli_replay.specs.declared.step_line.Verb.TheVariants as verb

-- the words by which a step begins, but for `answer`, which stands alone
unfoldable pub verb_of : List ℕ → Option Verb
verb_of word = if bytes_eq word (codes "receive") then Some verb.Receive
    else if bytes_eq word (codes "nobuffer") then Some verb.NoBuffer
    else if bytes_eq word (codes "offer") then Some verb.Offer
    else if bytes_eq word (codes "refuse") then Some verb.Refuse
    else if bytes_eq word (codes "take") then Some verb.Take
    else if bytes_eq word (codes "look") then Some verb.Look
    else if bytes_eq word (codes "route") then Some verb.Route
    else if bytes_eq word (codes "lack") then Some verb.Lack
    else if bytes_eq word (codes "close") then Some verb.Close
    else if bytes_eq word (codes "end") then Some verb.End
    else if bytes_eq word (codes "send") then Some verb.Send
    else if bytes_eq word (codes "sweep") then Some verb.Sweep
    else None

-- an end mark goes to a pipe that the worker feeds
abbrev pub if_fed : Config → Worker → Queue → Option Step
if_fed c worker queue = if feeds (worker_in c worker) (queue_in c queue) then Some (step.EndMark worker queue) else None

-- `W PIPE`
unfoldable pub end_of : Config → List ℕ → Option Step
end_of c text = do
  words ← split_once 32 text
  worker ← worker_of c words.0
  queue ← queue_of c words.1
  if_fed c worker queue

-- how a sink takes what it is handed
abbrev pub outcome_of : List ℕ → Option Bool
outcome_of word = if bytes_eq word (codes "ok") then Some true
    else if bytes_eq word (codes "failed") then Some false
    else None

-- `L ok` or `L failed`
unfoldable pub send_of : Config → List ℕ → Option Step
send_of c text = do
  words ← split_once 32 text
  link ← link_of c words.0
  ok ← outcome_of words.1
  Some (step.Send link ok)

-- what follows the verb and a blank
abbrev pub step_with : Config → Verb → List ℕ → Option Step
step_with c verb.Receive text = option_map step.Receive (link_of c text)
step_with c verb.NoBuffer text = option_map step.NoBuffer (link_of c text)
step_with c verb.Offer text = option_map step.Offer (worker_of c text)
step_with c verb.Refuse text = option_map step.Refuse (worker_of c text)
step_with c verb.Take text = option_map step.Take (queue_of c text)
step_with c verb.Look text = option_map step.Look (high_link_of c text)
step_with c verb.Route text = option_map step.Route (processor_of c text)
step_with c verb.Lack text = option_map step.Lack (worker_of c text)
step_with c verb.Close text = option_map step.CloseMark (link_queue_of c text)
step_with c verb.End text = end_of c text
step_with c verb.Send text = send_of c text
step_with c verb.Sweep text = option_map step.Sweep (link_queue_of c text)

unfoldable pub named_step_of : Config → List ℕ → Option Step
named_step_of c text = do
  words ← split_once 32 text
  verb ← verb_of words.0
  step_with c verb words.1

unfoldable pub step_of : Config → List ℕ → Option Step
step_of c text = if bytes_eq text (codes "answer") then Some step.Answer else named_step_of c text

-- the step that a line is; none where it is no such line
unfoldable pub step_of_line : Config → List ℕ → Option Step
step_of_line c line = as_text line >>= step_of c
