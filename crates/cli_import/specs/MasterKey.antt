-- The forwarding key of an AS, by the text of its master key.
use Rattle.std.specs.Prelude.{◌≡◌, ℕ, ◌-◌, List, [], ◌∷◌, Option, Some, None, Result, Ok, Err, drop, length, take}
use Rattle.std.specs.Char.{is_ascii_whitespace}
use Rattle.std.specs.List.{prefix_len, suffix_len}
use Rattle.base64.specs.Engines.{standard}
use Rattle.base64.specs.GeneralPurpose.{decode_of}
use Rattle.cli_faults.specs.declared.fault.Fault.{Fault}
use Rattle.key_derivation.specs.Pbkdf2.{forwarding_key}
use Rattle.text_values.specs.Pieces.{◌>>=◌}
use Rattle.cli_import.specs.Faults.{IsOfKey}

-- a text without the blanks at its beginning, and at its end
abbrev pub without_first : List ℕ → List ℕ
without_first text = drop (prefix_len is_ascii_whitespace text) text

abbrev pub without_last : List ℕ → List ℕ
without_last text = take (length text - suffix_len is_ascii_whitespace text) text

abbrev pub trimmed : List ℕ → List ℕ
trimmed text = without_last (without_first text)

abbrev pub bytes_of : {E : Type 0} → Result (List ℕ) E → Option (List ℕ)
bytes_of (Ok bytes) = Some bytes
bytes_of (Err e) = None

-- the master key that a text is in base64
abbrev pub master_of : List ℕ → Option (List ℕ)
master_of text = bytes_of (decode_of standard (trimmed text))

-- no key is derived from no bytes
abbrev pub derived : List ℕ → Option (List ℕ)
derived [] = None
derived (byte ∷ bytes) = Some (forwarding_key (byte ∷ bytes))

-- the forwarding key of the AS whose master key a text is
abbrev pub key_of : List ℕ → Option (List ℕ)
key_of text = master_of text >>= derived

-- The answer is this key, and the master key's fault where there is none; want of memory says nothing.
abbrev pub GivesKey : Result (List ℕ) Fault → Option (List ℕ) → Type 0
GivesKey (Ok key) wanted = wanted ≡ Some key
GivesKey (Err told) wanted = IsOfKey (wanted ≡ None) told
