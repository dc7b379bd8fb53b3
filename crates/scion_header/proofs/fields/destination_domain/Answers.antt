use Rattle.scion_header.proofs.fields.destination_domain.Goals as goal

pub returns-clause-isd : goal.returns-clause-isd
returns-clause-isd c = c.u16_at.ensures

pub returns-clause-autonomous_system : goal.returns-clause-autonomous_system
returns-clause-autonomous_system c = c.u48_at.ensures.value
