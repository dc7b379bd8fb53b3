use Rattle.std.proofs.Common.{◌+◌, ◌*◌, ℕ, List, ap, ◌∙◌}
use Rattle.order_laws.specs.Settled.{SlowPathRequest}
use Rattle.ruled_pipe.specs.Pipe.{shape_of}
use Rattle.ruled_pipe.specs.Producer.{Sender}
use Rattle.router_rules.specs.Links.{link_count}
use Rattle.router_rules.specs.Rules.{kinds}
use Rattle.run_ends.specs.Opened.{AreNewPipes}
use Rattle.run_pipes.specs.Piping.{egress_capacity}
use Rattle.run_pipes.proofs.OkLemmas.{of_ok}
use Rattle.run_pipes.proofs.pipes.open_all.Goals as goal

pub returns : goal.returns
returns g c =
    let config = c.args.shared.now.config in
    let packets = of_ok (λ n. AreNewPipes (λ _. config.capacity) (link_count config) config.processors n.pipes.items n.takers.items) c.packet_pipes-packets.result c.in_ok-packets.packets c.in_ok-packets.ensures.0 c.packet_pipes-packets.ensures in
    let egress_packets = of_ok (λ n. AreNewPipes (egress_capacity config) (config.processors + 2) (2 * link_count config) n.pipes.items n.takers.items) c.egress_pipes.result c.in_ok-packets.egress_packets c.in_ok-packets.ensures.1 c.egress_pipes.ensures in
    let free = c.in_ok-free.ensures in
    let requests = c.in_ok-requests.ensures in
    let pipe = c.in_ok-requests.requests in (
      record { packets = packets.shapes; requests = shape_of pipe; egress_packets = egress_packets.shapes; free = free.shapes },
      record {
        piping = record {
          packets = packets.producers;
          processors = packets.counted;
          packet_wide = packets.wide;
          requests = requests.pipe.0;
          request_wide = requests.pipe.1;
          egress_packets = egress_packets.producers;
          links = egress_packets.counted;
          egress_wide = egress_packets.wide;
          free = free.producers;
          free_links = free.counted;
          free_wide = free.wide;
        };
        packets = packets.pipes;
        requests = ap (λ (m : ℕ). record { pipe = pipe.pipe; producers = pipe.producers; capacity = pipe.capacity; made = m; senders = pipe.senders }) requests.new.0
            ∙ ap (λ (l : List (Sender (SlowPathRequest kinds))). record { pipe = pipe.pipe; producers = pipe.producers; capacity = pipe.capacity; made = 0; senders = l }) requests.new.1;
        egress_packets = egress_packets.pipes;
        free = free.pipes;
      },
      record { packets = packets.takers; requests = requests.taker; egress_packets = egress_packets.takers; free_buffers = free.takers },
    )
