use Rattle.std.proofs.Common.{[], ◌∷◌}
use Rattle.pipe_model.proofs.counting.dropped.Goals as goal

pub returns : goal.returns
returns c = λ i.
    c.dropped_for.ensures i ∷ c.dropped_for-2.ensures i ∷ c.dropped_for-3.ensures i
    ∷ c.dropped_for-4.ensures i ∷ c.dropped_for-5.ensures i ∷ c.dropped_for-6.ensures i
    ∷ c.dropped_for-7.ensures i ∷ c.dropped_for-8.ensures i ∷ c.dropped_for-9.ensures i
    ∷ c.dropped_for-10.ensures i ∷ c.dropped_for-11.ensures i ∷ c.dropped_for-12.ensures i
    ∷ c.dropped_for-13.ensures i ∷ c.dropped_for-14.ensures i ∷ c.dropped_for-15.ensures i
    ∷ c.dropped_for-16.ensures i ∷ c.dropped_for-17.ensures i ∷ c.dropped_for-18.ensures i
    ∷ c.dropped_for-19.ensures i ∷ c.dropped_for-20.ensures i ∷ c.dropped_for-21.ensures i
    ∷ []
