use Rattle.std.proofs.Common.{inl, inr}
use Rattle.std.proofs.lemmas.Result.{err_from_is_err_and}
use Rattle.cli_import.proofs.import.import_config.Goals as goal

pub returns-in_err-topology : goal.returns-in_err-topology
returns-in_err-topology g c = inl (let p = err_from_is_err_and c.from_residual.result c.from_residual.ensures.1 in rw (p.1, p.2) (inl c.in_err-topology.ensures))

pub returns-in_err-master_key : goal.returns-in_err-master_key
returns-in_err-master_key g c = inl (let p = err_from_is_err_and c.from_residual-in_err-master_key.result c.from_residual-in_err-master_key.ensures.1 in rw (p.1, p.2) (inr c.in_err-master_key.ensures))

pub returns : goal.returns
returns g c =
    inr (record {
      topology_text = c.as_str.result.now;
      master_text = c.as_str-2.result.now;
      old = _;
      new = _;
      imports = c.import_texts.ensures;
    })
