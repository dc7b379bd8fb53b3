use Rattle.std.specs.Arc.{arc_value}
use Rattle.worker_forwarder.proofs.ForwardingLemmas.{keeps_first}
use Rattle.worker_forwarder.proofs.forwarder.Forwarder.new.Goals as goal

pub invariant_of-result : goal.invariant_of-result
invariant_of-result g c =
    (c.has_two_bands.ensures, keeps_first g.K.Sink.told g.K.Sink.failed c.args.low c.args.high c.failures-began.result (record { config = (arc_value c.args.shared).config; sink = c.args.sink; free = c.args.free.items; share = c.args.share }) c.requires.low c.requires.high c.requires.share c.failures-began.ensures c.requires.untold)
