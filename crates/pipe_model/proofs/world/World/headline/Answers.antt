use Rattle.std.proofs.Common.{subst}
use Rattle.pipe_model.specs.Headline.{IsHeadline}
use Rattle.pipe_model.specs.Pipeline.{Pipeline}
use Rattle.pipe_model.proofs.Upheld.{headline, way_good}
use Rattle.pipe_model.proofs.world.World.headline.Goals as goal

pub returns-clause-headline : goal.returns-clause-headline
returns-clause-headline c =
    let P : Pipeline → Type 0 = λ p. IsHeadline p.config p.world in
    subst P c.self.view_is (headline c.rules_are_lawful.ensures _ _ c.self.invariant)

pub returns-clause-way : goal.returns-clause-way
returns-clause-way c r = way_good c.rules_are_lawful.ensures c.causes_are_apart.ensures _ _ r
