use Rattle.std.proofs.Common.{rules}
use Rattle.udp_devices.proofs.udp_sink.UdpSinkSink.send.Goals as goal

pub returns-clause-failed : goal.returns-clause-failed
returns-clause-failed c = search rules
