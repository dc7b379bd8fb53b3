-- What is known of the ends of new pipes.
use Rattle.std.specs.Prelude.{◌≡◌, ℕ, false, []}
use Rattle.ruled_pipe.specs.Consumer.{Taker}
use Rattle.ruled_pipe.specs.Producer.{Sender}
use Rattle.worker_parts.specs.Outlet.{Offering}

module _ {T : Type 0} where
  -- nothing was pushed by it
  abbrev pub IsNew : Sender T → Type 0
  IsNew s = (s.offers ≡ []) × (s.refusals ≡ [])

  abbrev pub IsFresh : Offering T → Type 0
  IsFresh o = (o.ended ≡ false) × IsNew o.sender

  -- nothing was taken from a pipe with this number of producers
  abbrev pub IsUntaken : ℕ → Taker T → Type 0
  IsUntaken producers t = (t.taken ≡ []) × (t.looks ≡ []) × (t.producers ≡ producers)
