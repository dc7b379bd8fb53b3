use Rattle.scion_packet.specs.Path.{hop_text}
use Rattle.path_fields.specs.Fields.{hop_field}
use Rattle.path_fields.proofs.OneHopLemmas.{second_hop_written}
use Rattle.path_fields.proofs.WritingLemmas.{hop_len}
use Rattle.path_fields.proofs.one_hop.set_second_hop.Goals as goal

pub returns-clause-bytes : goal.returns-clause-bytes
returns-clause-bytes c = c.write_hop.ensures

pub returns-clause-changed : goal.returns-clause-changed
returns-clause-changed c = λ p lawful old-is.
    second_hop_written p (hop_text (hop_field c.args.hop.now)) c.args.path.now c.write_hop.new.out lawful (hop_len c.args.hop.now) c.write_hop.ensures old-is
