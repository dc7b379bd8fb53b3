use Rattle.scion_header.specs.Fault.{fault_of}
use Rattle.host_ports.proofs.FoundLemmas.{faulty_quote}
use Rattle.host_ports.proofs.quote.quoted_port.Goals as goal

pub returns-in_default : goal.returns-in_default
returns-in_default c = faulty_quote c.args.quote.now (fault_of c.in_default.field-0) c.in_default.ensures.fault
