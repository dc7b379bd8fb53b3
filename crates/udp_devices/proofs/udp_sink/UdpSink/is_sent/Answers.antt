use Rattle.std.proofs.Common.{rules}
use Rattle.udp_devices.proofs.udp_sink.UdpSink.is_sent.Goals as goal

pub returns-in-None : goal.returns-in-None
returns-in-None c = search rules
