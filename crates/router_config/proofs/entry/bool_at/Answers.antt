use Rattle.std.proofs.Common.{◌∙◌, ap}
use Rattle.toml.specs.Data.{as_bool}
use Rattle.toml.specs.View.{table_view, view}
use Rattle.toml.proofs.Views.{table_get}
use Rattle.router_config.specs.Fault.{or_fault}
use Rattle.router_config.specs.declared.fault.ConfigFault.TheVariants.{WrongType}
use Rattle.router_config.proofs.EntryLemmas.{value_missing, value_tested}
use Rattle.router_config.proofs.entry.bool_at.Goals as goal

pub returns-in-Some : goal.returns-in-Some
returns-in-Some c =
    let found = table_get c.get.result c.args.key.now c.args.table.now.entries c.get.ensures.value in
    value_tested as_bool c.args.key.now (table_view c.args.table.now) (view c.in-Some.value.now) c.ok_or.result (rw c.in-Some.is at found) (c.ok_or.ensures.value ∙ ap (or_fault WrongType) c.as_bool.ensures)

pub returns-in-None : goal.returns-in-None
returns-in-None c =
    let found = table_get c.get.result c.args.key.now c.args.table.now.entries c.get.ensures.value in
    value_missing as_bool c.args.key.now (table_view c.args.table.now) (rw c.in-None.is at found)
