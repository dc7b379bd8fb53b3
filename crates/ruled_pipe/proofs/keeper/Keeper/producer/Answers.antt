use Rattle.std.proofs.Common.{List, ap, ◌∙◌}
use Rattle.std.specs.Arc.{arc_value}
use Rattle.crossbeam_queue.specs.Passes.{ruled_capacity}
use Rattle.ruled_pipe.specs.declared.rule.Left.{Left}
use Rattle.ruled_pipe.specs.Rule.{keeper, size_of}
use Rattle.ruled_pipe.proofs.Ends.{none_back}
use Rattle.ruled_pipe.proofs.keeper.Keeper.producer.Goals as goal

pub add-requires-clause-seat : goal.add-requires-clause-seat
add-requires-clause-seat g c =
    let k = c.self.inside in
    let none = none_back _ _ _ _ _ c.args.self.now c.self.view_is c.requires.none_back in (
      c.self.invariant.0,
      c.self.invariant.1 ∙ ap (λ (l : List (Left g.row.T.Denot)). keeper k.made (size_of (ruled_capacity (arc_value k.queue)) k.producers) l) none,
    )
