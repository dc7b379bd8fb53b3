-- What a source tells.
use Rattle.std.specs.Prelude.{◌≤◌, ℕ, List, take}
use Rattle.worker_order.specs.Heard.{Heard, Gave, WasQuiet, HadFailed, WasAtEnd}
use Rattle.worker_parts.specs.Buffer.{buffer_len}
use Rattle.worker_parts.specs.declared.source.NextLen.{NextLen}
use Rattle.worker_parts.specs.declared.source.NextLen.TheVariants as next

-- an answer, whose bytes stand at the front of a buffer
abbrev pub heard : List ℕ → NextLen → Heard
heard buffer (next.Datagram len from now) = Gave from now (take len buffer)
heard buffer next.Quiet = WasQuiet
heard buffer next.Failed = HadFailed
heard buffer next.End = WasAtEnd

abbrev pub fits : NextLen → Type 0
fits (next.Datagram len from now) = len ≤ buffer_len
fits next.Quiet = Unit {0}
fits next.Failed = Unit {0}
fits next.End = Unit {0}

abbrev pub failures_of : NextLen → ℕ
failures_of (next.Datagram len from now) = 0
failures_of next.Quiet = 0
failures_of next.Failed = 1
failures_of next.End = 0
