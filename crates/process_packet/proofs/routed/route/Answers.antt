use Rattle.std.proofs.Common.{rules, arith}
use Rattle.process_packet.specs.Network.{network}
use Rattle.process_packet.proofs.OneHopLemmas.{too_long_for_either}
use Rattle.process_packet.proofs.routed.route.Goals as goal

pub returns-then-len-gt-LONGEST_DATAGRAM : goal.returns-then-len-gt-LONGEST_DATAGRAM
returns-then-len-gt-LONGEST_DATAGRAM c =
    let a = c.args.arrival.now in
    too_long_for_either (network c.args.config.now) a.link a.source a.now a.bytes.items (omega (arith, c.if-len-gt-LONGEST_DATAGRAM.true, c.len-len.ensures))

pub returns-in_ok-bytes-in-Send : goal.returns-in_ok-bytes-in-Send
returns-in_ok-bytes-in-Send c = search rules
