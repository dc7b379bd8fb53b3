use Rattle.std.proofs.Common.{sym, ◌∙◌}
use Rattle.topology.proofs.AddressLemmas.{address_of-none, address_of-spelled}
use Rattle.topology.proofs.address.read_address.Goals as goal

pub returns-in-Ok-clause-value : goal.returns-in-Ok-clause-value
returns-in-Ok-clause-value c = c.underlay_of.ensures ∙ sym (address_of-spelled _ _ c.in-Ok.ensures.value)

pub returns-in-Err-clause-value : goal.returns-in-Err-clause-value
returns-in-Err-clause-value c = sym (address_of-none _ c.in-Err.ensures.value)
