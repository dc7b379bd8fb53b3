use Rattle.std.proofs.Common.{refl}
use Rattle.pipeline_tests.proofs.Pairs.{ended_of, ends_taken}
use Rattle.pipeline_tests.proofs.pipe.settled_example.Goals as goal

pub settled-requires : goal.settled-requires
settled-requires g c =
    let ends = c.for_two-pipe.ensures in
    let then = c.if-not-end_both.ensures in
    let told = c.gather_two-gathered.ensures in record {
      ended = ended_of _ _ _ _ _ _ ends.first (then.first refl) ends.second (then.second refl) told.0;
      taken = ends_taken _ _ _ _ _ _ _ ends.consumer (then.consumer refl) told.1 told.0;
    }
