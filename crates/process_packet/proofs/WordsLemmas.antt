-- The words for a packet's state say its fields.
use Rattle.std.proofs.Common.{arith}
use Rattle.process_packet.specs.PacketState.{hop, info}
use Rattle.process_packet.specs.StateWords.{WordsSayFields}
use Rattle.process_packet.proofs.ConditionLemmas.{alerts_entry, alerts_exit, came_by, carries_mac, comes_in_by, external, from_inside, goes_out_by, in_time, is_here, is_traceroute, path_end}

pub words_say : WordsSayFields
words_say s = record {
  external = external s.link;
  in_time = in_time (info s) (hop s) s.moment;
  authentic = carries_mac s.network.key (info s) (hop s);
  ingress = comes_in_by (info s) (hop s);
  egress = goes_out_by (info s) (hop s);
  ingress_alert = alerts_entry (info s) (hop s);
  egress_alert = alerts_exit (info s) (hop s);
  request = is_traceroute s.header.next_header s.payload;
  last = path_end s;
  from_here = is_here s.network s.header.source;
  for_here = is_here s.network s.header.destination;
  came_by = came_by s;
  from_inside = from_inside s;
  hop_pointer = omega arith;
  info_pointer = omega arith;
}
