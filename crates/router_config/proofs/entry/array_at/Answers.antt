use Rattle.toml.specs.Data.{as_array}
use Rattle.toml.specs.View.{table_view, view}
use Rattle.toml.proofs.Views.{table_get}
use Rattle.router_config.proofs.EntryLemmas.{value_found, value_missing, value_other}
use Rattle.router_config.proofs.entry.array_at.Goals as goal

pub returns-in-Some-as_array : goal.returns-in-Some-as_array
returns-in-Some-as_array c =
    let found = table_get c.get.result c.args.key.now c.args.table.now.entries c.get.ensures.value in
    value_found as_array c.args.key.now (table_view c.args.table.now) (view c.in-Some.value.now) _ (rw c.in-Some.is at found) (rw c.in-Some-as_array.is at c.as_array.ensures)

pub returns-in-None-as_array : goal.returns-in-None-as_array
returns-in-None-as_array c =
    let found = table_get c.get.result c.args.key.now c.args.table.now.entries c.get.ensures.value in
    value_other as_array c.args.key.now (table_view c.args.table.now) (view c.in-Some.value.now) (rw c.in-Some.is at found) (rw c.in-None-as_array.is at c.as_array.ensures)

pub returns-in-None : goal.returns-in-None
returns-in-None c =
    let found = table_get c.get.result c.args.key.now c.args.table.now.entries c.get.ensures.value in
    value_missing as_array c.args.key.now (table_view c.args.table.now) (rw c.in-None.is at found)
