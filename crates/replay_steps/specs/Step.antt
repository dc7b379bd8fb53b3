-- The steps as the pipeline's laws know them: with links by their numbers.
use Rattle.replay_laws.specs.Step.{Step}
use Rattle.process_packet.specs.declared.config.Config.{Config}
use Rattle.router_rules.specs.Links.{link_index}
use Rattle.replay_places.specs.Worker.{queue_in, worker_in}
use Rattle.replay_steps.specs.declared.step.Step.{Step as Act}
use Rattle.replay_steps.specs.declared.step.Step.TheVariants as act

abbrev pub step_in : Config → Act → Step
step_in c (act.Receive id) = Step.Receive (link_index c id)
step_in c (act.NoBuffer id) = Step.NoBuffer (link_index c id)
step_in c (act.Offer w) = Step.Offer (worker_in c w)
step_in c (act.Refuse w) = Step.Refuse (worker_in c w)
step_in c (act.Take q) = Step.Take (queue_in c q)
step_in c (act.Look id) = Step.Look (link_index c id)
step_in c (act.Route i) = Step.Route i
step_in c act.Answer = Step.Answer
step_in c (act.Lack w) = Step.Lack (worker_in c w)
step_in c (act.CloseMark q) = Step.Close (queue_in c q)
step_in c (act.EndMark w q) = Step.End (worker_in c w) (queue_in c q)
step_in c (act.Send id ok) = Step.Send (link_index c id) ok
step_in c (act.Sweep q) = Step.Sweep (queue_in c q)
