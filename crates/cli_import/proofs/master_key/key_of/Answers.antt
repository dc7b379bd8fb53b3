use Rattle.std.proofs.Common.{◌≡◌, ◌∙◌, Ok, Err, ap, sym}
use Rattle.base64.specs.Engines.{standard}
use Rattle.base64.specs.GeneralPurpose.{decode_of}
use Rattle.cli_import.proofs.KeyLemmas.{key_by}
use Rattle.cli_import.specs.MasterKey.{derived}
use Rattle.cli_import.proofs.master_key.key_of.Goals as goal

pub returns-in-Some : goal.returns-in-Some
returns-in-Some c =
    let read = key_by c.args.text.now _ c.trim_ascii.result.now (Ok c.in-Ok.master.items) c.as_bytes.ensures.value c.trim_ascii.ensures.value (rw c.in-Ok.is at c.decode.ensures.ok) in
    read ∙ ap derived (sym c.as_slice.ensures.value) ∙ sym c.derived.ensures ∙ c.in-Some.is

pub returns-in-Ok : goal.returns-in-Ok
returns-in-Ok c =
    let read = key_by c.args.text.now _ c.trim_ascii.result.now (Ok c.in-Ok.master.items) c.as_bytes.ensures.value c.trim_ascii.ensures.value (rw c.in-Ok.is at c.decode.ensures.ok) in
    read ∙ ap derived (sym c.as_slice.ensures.value) ∙ sym c.derived.ensures ∙ c.in-None.is

pub returns : goal.returns
returns c =
    let failed : decode_of standard c.trim_ascii.result.now ≡ Err c.in-Err-DecodeError.field-0-0 = rw c.in-Err-DecodeError.field-0-is at (rw c.in-Err-DecodeError.is at c.decode.ensures.err) in
    key_by c.args.text.now _ c.trim_ascii.result.now (Err c.in-Err-DecodeError.field-0-0) c.as_bytes.ensures.value c.trim_ascii.ensures.value failed
