use Rattle.scion_header.proofs.fields.destination_address.Goals as goal

pub returns : goal.returns
returns c = c.address_at.ensures.address
