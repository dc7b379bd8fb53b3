use Rattle.scion_packet.proofs.PacketLaws.{both_pass}
use Rattle.scmp_answer.proofs.parsed_packet.ParsedPacket.read.Goals as goal

pub after_header-requires-clause-path : goal.after_header-requires-clause-path
after_header-requires-clause-path c = (both_pass c.args.bytes.now c.requires).1

pub after_header-requires-clause-sound : goal.after_header-requires-clause-sound
after_header-requires-clause-sound c = (both_pass c.args.bytes.now c.requires).0
