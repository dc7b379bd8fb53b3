use Rattle.scion_header.proofs.fields.payload_length.Goals as goal

pub returns : goal.returns
returns c = c.u16_at.ensures
