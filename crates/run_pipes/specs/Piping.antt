-- The pipes of a router.
use Rattle.std.specs.Prelude.{◌≡◌, ◌+◌, ◌*◌, ℕ, List, Some, length, slice_get, if◌then◌else◌}
use Rattle.process_packet.specs.declared.config.Config.{Config}
use Rattle.ruled_pipe.specs.Consumer.{Taker}
use Rattle.ruled_pipe.specs.Pipe.{Shape}
use Rattle.router_rules.specs.Links.{link_count}
use Rattle.worker_parts.specs.Outlets.{are_used}
use Rattle.run_ends.specs.Rows.{AreFor, AreWide, AreWideAs, taker_of}

-- one pipe a processor, the slow path's, two a link, and one of free buffers a link
pub record Piping : Type 0 where
  pub packets : List Shape
  pub requests : Shape
  pub egress_packets : List Shape
  pub free : List Shape

-- how many entries the links' pipe at a place holds: as many as configured; the pipe of a band that the link lacks is not used, and holds one
abbrev pub egress_capacity : Config → ℕ → ℕ
egress_capacity c at = if are_used c at then c.capacity else 1

-- The receivers feed the processors, these the slow path; processors, slow path and controller feed the links; free buffers come from
-- processors, slow path and forwarders, and at first from whoever fills their pipes. All hold as many entries as configured.
pub record IsPiping (c : Config) (p : Piping) : Type 0 where
  pub packets : AreFor (link_count c) p.packets
  pub processors : length p.packets ≡ c.processors
  pub packet_wide : AreWide c.capacity p.packets
  pub requests : p.requests.producers ≡ c.processors
  pub request_wide : p.requests.capacity ≡ c.capacity
  pub egress_packets : AreFor (c.processors + 2) p.egress_packets
  pub links : length p.egress_packets ≡ 2 * link_count c
  pub egress_wide : AreWideAs (egress_capacity c) 0 p.egress_packets
  pub free : AreFor (c.processors + 2 + link_count c) p.free
  pub free_links : length p.free ≡ link_count c
  pub free_wide : AreWide c.buffers p.free

-- the consumer of the pipe of a number, which took nothing yet
pub record IsTakerThere {T : Type 0} (pipes : List Shape) (i : ℕ) (t : Taker T) : Type 0 where
  pub own : Shape
  pub there : slice_get pipes i ≡ Some own
  pub fresh : t ≡ taker_of own
