use Rattle.std.proofs.Common.{rules}
use Rattle.process_packet.proofs.parsed_headers.ParsedHeaders.too_long.Goals as goal

pub returns-then-bytes-gt-LONGEST_DATAGRAM : goal.returns-then-bytes-gt-LONGEST_DATAGRAM
returns-then-bytes-gt-LONGEST_DATAGRAM c = search rules
