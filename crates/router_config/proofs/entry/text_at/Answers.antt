use Rattle.toml.specs.Data.{as_str}
use Rattle.toml.specs.View.{table_view, view}
use Rattle.toml.proofs.Views.{table_get}
use Rattle.router_config.proofs.EntryLemmas.{value_found, value_missing, value_other}
use Rattle.router_config.proofs.entry.text_at.Goals as goal

pub returns-in-Some-as_str : goal.returns-in-Some-as_str
returns-in-Some-as_str c =
    let found = table_get c.get.result c.args.key.now c.args.table.now.entries c.get.ensures.value in
    value_found as_str c.args.key.now (table_view c.args.table.now) (view c.in-Some.value.now) _ (rw c.in-Some.is at found) (rw c.in-Some-as_str.is at c.as_str.ensures)

pub returns-in-None-as_str : goal.returns-in-None-as_str
returns-in-None-as_str c =
    let found = table_get c.get.result c.args.key.now c.args.table.now.entries c.get.ensures.value in
    value_other as_str c.args.key.now (table_view c.args.table.now) (view c.in-Some.value.now) (rw c.in-Some.is at found) (rw c.in-None-as_str.is at c.as_str.ensures)

pub returns-in-None : goal.returns-in-None
returns-in-None c =
    let found = table_get c.get.result c.args.key.now c.args.table.now.entries c.get.ensures.value in
    value_missing as_str c.args.key.now (table_view c.args.table.now) (rw c.in-None.is at found)
