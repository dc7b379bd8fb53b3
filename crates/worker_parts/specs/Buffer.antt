-- How long a buffer is.
use Rattle.std.specs.Prelude.{ℕ}

-- in bytes: one more than the longest datagram that is carried
abbrev pub buffer_len : ℕ
buffer_len = 9217
