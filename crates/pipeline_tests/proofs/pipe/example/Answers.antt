use Rattle.std.proofs.Common.{refl}
use Rattle.pipeline_tests.proofs.Pairs.{example_of}
use Rattle.pipeline_tests.proofs.pipe.example.Goals as goal

pub returns : goal.returns
returns g c =
    let ends = c.for_two-pipe.ensures in
    example_of _ _ _ _ _ _ _ _ _ ends.first (c.if-not-fill_up.ensures.first refl) (c.if-not-close_and_take.ensures.first refl) ends.second (c.if-not-fill_up.ensures.second refl) ends.consumer (c.if-not-close_and_take.ensures.consumer refl) c.gather_two.ensures.0 c.gather_two.ensures.1
