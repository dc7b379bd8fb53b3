use Rattle.std.proofs.Common.{◌∙◌, Option, ap, map, sym}
use Rattle.std.proofs.lemmas.Result.{err_from_is_err_and}
use Rattle.serde_json.specs.Data.{Data}
use Rattle.text_values.specs.Pieces.{◌>>=◌}
use Rattle.topology.specs.LeftOut.{left}
use Rattle.topology.specs.Topology.{topology_of}
use Rattle.cli_import.specs.Import.{NotMade}
use Rattle.cli_import.proofs.ImportLemmas.{not_made_memory, not_made_of, not_made_unread}
use Rattle.cli_import.proofs.configure.configure.Goals as goal

pub returns-in_err-key-clause-fault : goal.returns-in_err-key-clause-fault
returns-in_err-key-clause-fault g c = let p = err_from_is_err_and c.from_residual.result c.from_residual.ensures.1 in rw (p.1, p.2) (NotMade.no_key c.in_err-key.ensures)

pub returns-in_err-value-clause-fault : goal.returns-in_err-value-clause-fault
returns-in_err-value-clause-fault g c = let p = err_from_is_err_and c.from_residual-in_err-value.result c.from_residual-in_err-value.ensures.1 in rw (p.1, p.2) (not_made_unread c.args.topology.now c.args.master_key.now c.args.words.now _ c.in_err-value.ensures.fault)

pub returns-in_err-made-clause-fault : goal.returns-in_err-made-clause-fault
returns-in_err-made-clause-fault g c =
    let p = err_from_is_err_and c.from_residual-in_err-made.result c.from_residual-in_err-made.ensures.1 in rw (p.1, p.2)
    (not_made_of c.args.topology.now c.args.master_key.now c.args.words.now _ c.in_ok-key.key _ c.in_ok-value.ensures.read c.in_ok-key.ensures c.in_err-made.ensures.fault)

pub returns-in_err-is_warned-clause-fault : goal.returns-in_err-is_warned-clause-fault
returns-in_err-is_warned-clause-fault g c = let p = err_from_is_err_and c.from_residual-in_err-is_warned.result c.from_residual-in_err-is_warned.ensures.1 in rw (p.1, p.2) (not_made_memory c.args.topology.now c.args.master_key.now c.args.words.now _ c.in_err-is_warned.ensures.fault)

pub returns-in_err-verdict_of-clause-fault : goal.returns-in_err-verdict_of-clause-fault
returns-in_err-verdict_of-clause-fault g c =
    let p = err_from_is_err_and c.from_residual-in_err-verdict_of.result c.from_residual-in_err-verdict_of.ensures.1 in rw (p.1, p.2) (NotMade.warned c.in_err-verdict_of.ensures.strict.0 c.in_err-verdict_of.ensures.strict.1)

pub returns-clause-made : goal.returns-clause-made
returns-clause-made g c =
    let router = c.args.words.now.border_router.now in
    let imported = c.in_ok-made.ensures.made in
    record {
      topology = imported.topology;
      key = c.in_ok-key.key;
      says = ap (λ (o : Option Data). o >>= topology_of router) c.in_ok-value.ensures.read ∙ imported.says;
      key_is = c.in_ok-key.ensures;
      made_of = imported.made_of;
      whole = λ strict. sym imported.left_is ∙ ap (λ items. map left items) (sym c.as_slice.ensures.value ∙ c.tell_left_out-is_left_out.ensures (c.in_ok-verdict_of.ensures.silent strict).0);
      harmless = λ strict. c.in_ok-is_warned.ensures.told (c.in_ok-verdict_of.ensures.silent strict).1;
    }
