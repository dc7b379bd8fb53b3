use Rattle.std.proofs.Common.{sym, ap, subst, ◌∙◌}
use Rattle.ruled_pipe.specs.Pipe.{Keeping, Shape, IsNext}
use Rattle.ruled_pipe.proofs.Ends.{next_stands}
use Rattle.ruled_pipe.proofs.pipe.Pipe.gather.Goals as goal

pub absorb-requires : goal.absorb-requires
absorb-requires g c =
    let at = c.loop-producer in
    let x = c.in-Some.producer in
    let stands = next_stands at.yielded _ _ _ _ x c.in-Some.ensures.steps.0 at.invariant.1 c.into_iter-producer-iterator.ensures.into_iter_gives.0 in
    let own = c.requires.1 _ _ stands in
    let shape = c.into_keeper-keeper.ensures.shape in
    let P : Keeping g.row.T.Denot → Type 0 = λ k. IsNext k x in
    subst P (sym at.invariant.0) (own.0 ∙ sym (ap (λ (s : Shape). s.pipe) shape), own.1, own.2 ∙ sym (ap (λ (s : Shape). s.producers) shape), own.3 ∙ sym (ap (λ (s : Shape). s.capacity) shape))
