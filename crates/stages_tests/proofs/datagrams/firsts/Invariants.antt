use Rattle.std.proofs.Common.{◌≡◌, map, replicate}
use Rattle.worker_order.specs.Heard.{Gave}
use Rattle.sample_packets.specs.declared.datagram.TheConstants.{FIRST, IN_TIME}
use Rattle.stages_tests.specs.declared.neighbour.TheConstants.{NEAR}
use Rattle.worker_parts.specs.ListSource.{heard_of}
use Rattle.stages_tests.proofs.datagrams.firsts.Given as goal

abbrev pub invariant-loop : goal.invariant-loop
invariant-loop l = map heard_of l.answers.items ≡ replicate l.counter (Gave NEAR IN_TIME FIRST)
