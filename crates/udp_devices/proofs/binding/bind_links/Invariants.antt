use Rattle.std.proofs.Common.{◌≡◌, map}
use Rattle.std.specs.List.{range_with_len}
use Rattle.udp_devices.specs.Binding.{sink_at, source_at}
use Rattle.udp_devices.proofs.binding.bind_links.Given as goal

abbrev pub invariant-loop-index : goal.invariant-loop-index
invariant-loop-index g l = (l.sources.items ≡ map (source_at l.config) (range_with_len 0 l.index)) × (l.sinks.items ≡ map (sink_at l.config) (range_with_len 0 l.index))
