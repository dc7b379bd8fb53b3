-- What the examples of the tests leave.
use Rattle.std.specs.Prelude.{◌≡◌, ℕ, List, [], ◌∷◌}
use Rattle.ruled_pipe.specs.declared.entry.Entry.{Entry}
use Rattle.ruled_pipe.specs.declared.entry.Load.TheVariants.{Payload, Marked}
use Rattle.ruled_pipe.specs.declared.entry.Mark.TheVariants.{Close}
use Rattle.ruled_pipe.specs.Producer.{entry, refusal}
use Rattle.ruled_pipe.specs.Gathered.{Views, IsWhole}

-- At capacity 2, producer 0 had 10 and a closing mark accepted and 12 refused, after one accepted offer; producer 1 had 11 accepted; all three were taken, in that order, and then a look found nothing; nothing is held
pub record IsExample (v : Views ℕ) : Type 0 where
  pub senders : v.senders
      ≡ record { pipe = v.taker.pipe; number = 0; producers = 2; capacity = 2; offers = entry 0 (Payload 10) ∷ entry 0 (Marked Close) ∷ []; refusals = refusal (entry 0 (Payload 12)) 1 ∷ [] }
      ∷ record { pipe = v.taker.pipe; number = 1; producers = 2; capacity = 2; offers = entry 1 (Payload 11) ∷ []; refusals = [] }
      ∷ []
  pub taken : v.taker.taken ≡ entry 0 (Payload 10) ∷ entry 1 (Payload 11) ∷ entry 0 (Marked Close) ∷ []
  pub looks : v.taker.looks ≡ 3 ∷ []
  pub empty : (held : List (Entry ℕ)) → IsWhole 2 v.senders v.taker.taken held → held ≡ []
