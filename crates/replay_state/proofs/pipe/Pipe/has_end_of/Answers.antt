use Rattle.std.proofs.Common.{◌∙◌, ap, List}
use Rattle.replay_laws.specs.Pipe.{Pipe, has_end_of}
use Rattle.router_rules.specs.Rules.{kinds}
use Rattle.replay_places.specs.WorkerIndex.{worker_of}
use Rattle.replay_state.specs.Ended.{has_ended}
use Rattle.replay_places.specs.declared.worker_index.WorkerIndex.{WorkerIndex}
use Rattle.replay_state.proofs.pipe.Pipe.has_end_of.Goals as goal

pub returns : goal.returns
returns c =
    let W = worker_of c.args.worker in
    c.has_ended.ensures ∙ (ap (λ (vs : List WorkerIndex). has_ended vs W) c.as_slice.ensures.value ∙ (c.self.invariant.ended W ∙ ap (λ (p : Pipe kinds). has_end_of W p) c.self.view_is))
