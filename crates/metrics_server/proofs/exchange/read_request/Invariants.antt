use Rattle.std.proofs.Common.{◌≡◌, ◌<◌, ◌≤◌, length, take}
use Rattle.std.specs.Io.KnownBytes.{Consumes}
use Rattle.httparse.specs.Grammar.{HasNoRequest}
use Rattle.metrics_server.specs.Request.{most}
use Rattle.metrics_server.proofs.exchange.read_request.Given as goal

-- no request is whole in what was read, a byte at least in each turn
abbrev pub invariant-loop-turn : goal.invariant-loop-turn
invariant-loop-turn g l =
    (length l.buffer ≡ length l.fn.buffer) × (l.len < most) × (l._turn ≤ l.len)
    × Consumes (g.I.Read.remaining l.fn.reader) (g.I.Read.remaining l.reader) (take l.len l.buffer) × HasNoRequest (take l.len l.buffer)
