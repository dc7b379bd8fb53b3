-- What tests see of a link's pipe.
use Rattle.std.specs.Prelude.{◌≡◌, false, []}
use Rattle.worker_forwarder.specs.Forwarding.{Band}

-- nothing was taken
abbrev pub IsNewBand : Band → Type 0
IsNewBand b = (b.taker.taken ≡ []) × (b.shut ≡ false)
