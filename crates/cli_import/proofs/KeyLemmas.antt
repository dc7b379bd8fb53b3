-- The key of a master key's text, by what is read of the text.
use Rattle.std.proofs.Common.{◌≡◌, ◌∙◌, ℕ, List, Result, ap, refl, sym}
use Rattle.std.specs.Str.{IsTrimAscii}
use Rattle.std.proofs.lemmas.Str.Ascii.{trim_ascii_is}
use Rattle.base64.specs.Engines.{standard}
use Rattle.base64.specs.GeneralPurpose.{decode_of}
use Rattle.base64.specs.declared.decode.DecodeError.{DecodeError}
use Rattle.text_values.specs.Pieces.{◌>>=◌}
use Rattle.cli_import.specs.MasterKey.{bytes_of, derived, key_of, trimmed, without_first}

trimmed_is : (text s t : List ℕ) → s ≡ text → IsTrimAscii s t → t ≡ trimmed text
trimmed_is text s t same is = trim_ascii_is s t (without_first s) refl is ∙ ap trimmed same

-- the key by what the trimmed text decodes to
pub key_by : (text s t : List ℕ) (r : Result (List ℕ) DecodeError) → s ≡ text → IsTrimAscii s t → decode_of standard t ≡ r → key_of text ≡ (bytes_of r >>= derived)
key_by text s t r same is decoded =
    ap (λ (u : List ℕ). bytes_of (decode_of standard u) >>= derived) (sym (trimmed_is text s t same is))
    ∙ ap (λ (q : Result (List ℕ) DecodeError). bytes_of q >>= derived) decoded
