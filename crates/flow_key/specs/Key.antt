-- The plain record of a flow's key.
use Rattle.flow_key.specs.Flow.{Flow}
use Rattle.flow_key.specs.declared.key.FlowKey.{FlowKey}

abbrev pub flow : FlowKey → Flow
flow key = record { flow_id = key.flow_id; host_kinds = key.host_kinds; addresses = key.addresses.now; high = key.high }
