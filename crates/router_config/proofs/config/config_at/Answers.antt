use Rattle.std.proofs.Common.{Ok, ap, inr, ◌∙◌}
use Rattle.toml.specs.View.{table_view}
use Rattle.router_config.specs.Config.{values}
use Rattle.router_config.specs.Parts.{around_values, internal_values, local_values, size_values}
use Rattle.router_config.proofs.ConfigLemmas.{all_there, bad_around, bad_internal, bad_local, bad_ports, bad_sizes, bad_version, joined}
use Rattle.router_config.proofs.config.config_at.Goals as goal

pub returns-in-Err : goal.returns-in-Err
returns-in-Err c = inr (bad_version (table_view c.args.table.now) c.in-Err.fault c.in-Err.ensures)

pub returns-in-Err-local_at : goal.returns-in-Err-local_at
returns-in-Err-local_at c = inr (bad_local (table_view c.args.table.now) c.in-Ok.version c.in-Err-local_at.fault c.in-Ok.ensures c.in-Err-local_at.ensures.value)

pub returns-in-Err-internal_at : goal.returns-in-Err-internal_at
returns-in-Err-internal_at c =
    inr (bad_internal (table_view c.args.table.now) c.in-Ok.version (local_values c.in-Ok-local_at.local) c.in-Err-internal_at.fault c.in-Ok.ensures c.in-Ok-local_at.ensures.value c.in-Err-internal_at.ensures.value)

pub returns-in-Err-sizes_at : goal.returns-in-Err-sizes_at
returns-in-Err-sizes_at c =
    inr (bad_sizes (table_view c.args.table.now) c.in-Ok.version (local_values c.in-Ok-local_at.local) (internal_values c.in-Ok-internal_at.internal) c.in-Err-sizes_at.fault
    c.in-Ok.ensures c.in-Ok-local_at.ensures.value c.in-Ok-internal_at.ensures.value c.in-Err-sizes_at.ensures.value)

pub returns-in-Err-dispatched_ports_at : goal.returns-in-Err-dispatched_ports_at
returns-in-Err-dispatched_ports_at c =
    inr (bad_ports (table_view c.args.table.now) c.in-Ok.version (local_values c.in-Ok-local_at.local) (internal_values c.in-Ok-internal_at.internal) (size_values c.in-Ok-sizes_at.sizes) c.in-Err-dispatched_ports_at.fault
    c.in-Ok.ensures c.in-Ok-local_at.ensures.value c.in-Ok-internal_at.ensures.value c.in-Ok-sizes_at.ensures.value c.in-Err-dispatched_ports_at.ensures.value)

pub returns-in-Err-around_at : goal.returns-in-Err-around_at
returns-in-Err-around_at c =
    bad_around (table_view c.args.table.now) c.in-Ok.version (local_values c.in-Ok-local_at.local) (internal_values c.in-Ok-internal_at.internal) (size_values c.in-Ok-sizes_at.sizes) c.in-Ok-dispatched_ports_at.ports c.in-Err-around_at.fault
    c.in-Ok.ensures c.in-Ok-local_at.ensures.value c.in-Ok-internal_at.ensures.value c.in-Ok-sizes_at.ensures.value c.in-Ok-dispatched_ports_at.ensures.value c.in-Err-around_at.ensures.value

pub returns : goal.returns
returns c =
    all_there (table_view c.args.table.now) c.in-Ok.version (local_values c.in-Ok-local_at.local) (internal_values c.in-Ok-internal_at.internal) (size_values c.in-Ok-sizes_at.sizes) c.in-Ok-dispatched_ports_at.ports (around_values c.in-Ok-around_at.around)
    c.in-Ok.ensures c.in-Ok-local_at.ensures.value c.in-Ok-internal_at.ensures.value c.in-Ok-sizes_at.ensures.value c.in-Ok-dispatched_ports_at.ensures.value c.in-Ok-around_at.ensures.value
    ∙ ap Ok (joined (values c.config_of.result) (local_values c.in-Ok-local_at.local) (internal_values c.in-Ok-internal_at.internal) (size_values c.in-Ok-sizes_at.sizes) c.in-Ok-dispatched_ports_at.ports (around_values c.in-Ok-around_at.around)
    c.config_of.ensures.near c.config_of.ensures.internal c.config_of.ensures.sizes c.config_of.ensures.ports c.config_of.ensures.around)
