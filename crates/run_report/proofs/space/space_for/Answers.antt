use Rattle.std.proofs.Common.{arith}
use Rattle.run_report.proofs.space.space_for.Goals as goal

pub returns : goal.returns
returns g c = record {
  packets = (c.in_ok-packets.ensures.items, let room = c.in_ok-packets.ensures.capacity in omega arith);
  egress_packets = (c.in_ok-egress_packets.ensures.items, let room = c.in_ok-egress_packets.ensures.capacity in omega arith);
  shares = (c.in_ok-shares.ensures.items, let room = c.in_ok-shares.ensures.capacity in omega arith);
  sent = (c.in_ok-sent.ensures.items, let room = c.in_ok-sent.ensures.capacity in omega arith);
  sources = (c.in_ok-sources.ensures.items, let room = c.in_ok-sources.ensures.capacity in omega arith);
  sinks = (c.in_ok-sinks.ensures.items, let room = c.in_ok-sinks.ensures.capacity in omega arith);
}
