-- Lines of a key and a value.
use Rattle.std.specs.Prelude.{ℕ, List, ◌++◌, codes, decimal}
use Rattle.process_packet.specs.declared.underlay.Underlay.{Underlay}
use Rattle.text_values.specs.Shown.{text_of}

abbrev pub text_line : List ℕ → List ℕ → List ℕ
text_line key value = key ++ (codes " = \"" ++ (value ++ codes "\"\n"))

abbrev pub address_line : List ℕ → Underlay → List ℕ
address_line key address = text_line key (text_of address)

abbrev pub number_line : List ℕ → ℕ → List ℕ
number_line key n = key ++ (codes " = " ++ (decimal n ++ codes "\n"))
