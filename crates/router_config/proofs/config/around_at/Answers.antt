use Rattle.toml.specs.View.{table_view}
use Rattle.router_config.proofs.ConfigLemmas.{all_around, bad_links, bad_services, bad_siblings}
use Rattle.router_config.proofs.config.around_at.Goals as goal

pub returns-in-Err-clause-value : goal.returns-in-Err-clause-value
returns-in-Err-clause-value c = bad_links c.args.version c.args.own (table_view c.args.table.now) c.in-Err.fault c.in-Err.ensures.value

pub returns-in-Err-siblings_at-clause-value : goal.returns-in-Err-siblings_at-clause-value
returns-in-Err-siblings_at-clause-value c =
    let found = rw c.as_slice.ensures.value at c.in-Err-siblings_at.ensures.value in
    bad_siblings c.args.version c.args.own (table_view c.args.table.now) c.in-Ok.links.items c.in-Err-siblings_at.fault c.in-Ok.ensures.value found

pub returns-in-Err-services_at-clause-value : goal.returns-in-Err-services_at-clause-value
returns-in-Err-services_at-clause-value c =
    let found = rw c.as_slice.ensures.value at c.in-Ok-siblings_at.ensures.value in
    bad_services c.args.version c.args.own (table_view c.args.table.now) c.in-Ok.links.items c.in-Ok-siblings_at.siblings.items c.in-Err-services_at.fault c.in-Ok.ensures.value found c.in-Err-services_at.ensures.value

pub returns-clause-value : goal.returns-clause-value
returns-clause-value c =
    let found = rw c.as_slice.ensures.value at c.in-Ok-siblings_at.ensures.value in
    all_around c.args.version c.args.own (table_view c.args.table.now) c.in-Ok.links.items c.in-Ok-siblings_at.siblings.items c.in-Ok-services_at.services.items c.in-Ok.ensures.value found c.in-Ok-services_at.ensures.value
