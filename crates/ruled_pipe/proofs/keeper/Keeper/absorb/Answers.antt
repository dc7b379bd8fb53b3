use Rattle.std.proofs.Common.{rules}
use Rattle.ruled_pipe.specs.Rule.{known_by}
use Rattle.ruled_pipe.proofs.Ends.{known_next, left_next}
use Rattle.ruled_pipe.proofs.keeper.Keeper.absorb.Goals as goal

pub invariant_of-self : goal.invariant_of-self
invariant_of-self g c =
    let own = c.self.invariant in
    let v = known_by c.self.inside.seat in (
      search rules,
      known_next _ _ _ v _ own.1 c.leave.ensures.known,
      left_next _ _ _ _ v _ c.args.producer c.args.self.now c.self.view_is c.requires c.leave.ensures.full own.2 c.leave.ensures.known,
    )
