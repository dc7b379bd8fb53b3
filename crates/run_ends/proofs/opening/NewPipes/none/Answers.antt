use Rattle.std.proofs.Common.{[], refl}
use Rattle.run_ends.proofs.opening.NewPipes.none.Goals as goal

pub returns : goal.returns
returns g c = λ f n. record { shapes = []; pipes = c.new.ensures.items; takers = c.new-2.ensures.items; producers = tt; wide = tt; counted = refl }
