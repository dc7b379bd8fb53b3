use Rattle.std.proofs.Common.{ap}
use Rattle.std.specs.Prelude.{is_some}
use Rattle.std.proofs.lemmas.Result.{err_from_is_err_and}
use Rattle.cli_io.proofs.LinesLemmas.{Appends-nothing}
use Rattle.cli_import.specs.Import.{NotPut}
use Rattle.cli_import.proofs.ImportLemmas.{put_out, put_printed}
use Rattle.cli_import.proofs.import.import_texts.Goals as goal

pub returns-in_err-made : goal.returns-in_err-made
returns-in_err-made g c = let p = err_from_is_err_and c.from_residual.result c.from_residual.ensures.1 in rw (p.1, p.2) (NotPut.not_made c.in_err-made.ensures.fault (Appends-nothing _))

pub returns-in-Some : goal.returns-in-Some
returns-in-Some g c =
    put_out _ _ c.args.words.now c.in_ok-made.made _ _ c.in_ok-made.ensures.made (ap (λ o. is_some o) c.in-Some.is) c.write_out.ensures

pub returns : goal.returns
returns g c =
    put_printed _ _ c.args.words.now c.in_ok-made.made _ _ _ c.as_str-in-None.result.now c.in_ok-made.ensures.made (ap (λ o. is_some o) c.in-None.is) c.as_str-in-None.ensures.value
    c.write_text.ensures.written c.write_text.ensures.begins c.write_text.ensures.fault
