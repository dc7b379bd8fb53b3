use Rattle.std.proofs.Common.{refl}
use Rattle.scion_packet.specs.Packet.{packet_of}
use Rattle.process_packet.specs.PacketState.{arrives}
use Rattle.process_packet.proofs.LawLemmas.{is_moved, told}
use Rattle.process_packet.proofs.laws.nothing_else_changes.Goals as goal

pub returns : goal.returns
returns c n link source moment bytes out to p sent = is_moved (arrives n link source moment bytes) out to p (packet_of bytes) refl (told n link source moment bytes out to p sent)
