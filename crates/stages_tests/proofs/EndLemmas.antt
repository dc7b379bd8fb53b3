-- The ends of a new pipe.
use Rattle.std.proofs.Common.{ℕ, List, All, ap, get_or}
use Rattle.std.proofs.lemmas.Option.{slice_get-get_or}
use Rattle.atomic_table.specs.Seated.{TableId}
use Rattle.ruled_pipe.specs.Pipe.{AreNew}
use Rattle.ruled_pipe.specs.Producer.{Sender}
use Rattle.stages_tests.specs.NewEnds.{IsNew}

module _ {T : Type 0} where
  pub all_new : (pipe : TableId) (capacity producers : ℕ) (ends : List (Sender T)) → AreNew pipe capacity producers producers ends → All IsNew ends
  all_new pipe capacity producers ends new = λ k d lt.
      let e = new.1 k (get_or ends k d) (slice_get-get_or ends k d lt) in
      (ap (λ (s : Sender T). s.offers) e, ap (λ (s : Sender T). s.refusals) e)
