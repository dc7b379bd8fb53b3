use Rattle.ruled_pipe.specs.Rule.{known_by}
use Rattle.ruled_pipe.proofs.Steps.{takes_in_from, whole_from}
use Rattle.ruled_pipe.proofs.Ends.{whole_as, whole_of}
use Rattle.ruled_pipe.proofs.keeper.Keeper.settle.Goals as goal

pub absorb-requires-clause-rule : goal.absorb-requires-clause-rule
absorb-requires-clause-rule g c = takes_in_from _ _ _ _ _ _ _ _ _ c.self.invariant.1 c.into_seat-taking.ensures.known

pub learn_as-requires-clause-rule : goal.learn_as-requires-clause-rule
learn_as-requires-clause-rule g c = whole_from _ _ _ _ _ _ c.absorb.ensures.rule

pub returns-clause-whole : goal.returns-clause-whole
returns-clause-whole g c =
    let told = c.learn_as.ensures.rule in
    let own = c.self.invariant in (
      told.0,
      whole_of _ _ _ _ _ (known_by c.self.inside.seat) _ _ c.args.consumer.taken told.0 c.args.self own.1 c.into_seat-taking.ensures.known c.absorb.ensures.rule own.2 told.1 c.self.view_is c.requires.all,
    )

pub invariant_of-result : goal.invariant_of-result
invariant_of-result g c =
    let told = c.learn_as.ensures.rule in
    let own = c.self.invariant in
    let whole = whole_of _ _ _ _ _ (known_by c.self.inside.seat) _ _ c.args.consumer.taken told.0 c.args.self own.1 c.into_seat-taking.ensures.known c.absorb.ensures.rule own.2 told.1 c.self.view_is c.requires.all in
    (told.0, whole_as _ c.args.self _ c.args.consumer told.0 c.of-keeper.ensures c.of-taker.ensures c.requires.consumer.2 whole)
