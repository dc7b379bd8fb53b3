-- What a source over a socket answers.
use Rattle.std.specs.Prelude.{◌≡◌, ℕ, ⊤}
use Rattle.process_packet.specs.declared.underlay.Underlay.{Underlay}
use Rattle.worker_parts.specs.declared.source.NextLen.{NextLen}
use Rattle.worker_parts.specs.declared.source.NextLen.TheVariants.{Datagram, Quiet, Failed, End}

-- the datagram of this length, with its source, unless the clock failed
abbrev pub Arrives : ℕ → Underlay → NextLen → Type 0
Arrives len from (Datagram found source now) = (found ≡ len) × (source ≡ from)
Arrives len from Quiet = ⊥
Arrives len from Failed = ⊤
Arrives len from End = ⊥

-- it never says that there will be none any more
abbrev pub GoesOn : NextLen → Type 0
GoesOn (Datagram len from now) = ⊤
GoesOn Quiet = ⊤
GoesOn Failed = ⊤
GoesOn End = ⊥
