-- The text of an address: lower case, no leading zeros.
use Rattle.std.specs.Prelude.{ℕ, ◌+◌, ◌*◌, List, [], ◌∷◌, ◌++◌, decimal, false, slice_index}
use Rattle.std.specs.Fmt.{digits}
use Rattle.process_packet.specs.declared.underlay.Ip.{Ip}
use Rattle.process_packet.specs.declared.underlay.Ip.TheVariants.{V4, V6}
use Rattle.process_packet.specs.declared.underlay.Underlay.{Underlay}

abbrev pub octet : List ℕ → ℕ → List ℕ
octet bytes i = decimal (slice_index bytes i)

abbrev pub dotted : List ℕ → ℕ → List ℕ
dotted bytes i = 46 ∷ octet bytes i

-- four decimals joined by `.`
unfoldable pub octets_text : List ℕ → List ℕ
octets_text b = octet b 0 ++ (dotted b 1 ++ (dotted b 2 ++ dotted b 3))

-- a group of two bytes in hex
abbrev pub group : List ℕ → ℕ → List ℕ
group bytes i = digits 16 false (slice_index bytes (2 * i) * 256 + slice_index bytes (2 * i + 1))

abbrev pub with_colon : List ℕ → ℕ → List ℕ
with_colon bytes i = 58 ∷ group bytes i

-- the first four groups in hex, joined by `:`
unfoldable pub first_groups : List ℕ → List ℕ
first_groups b = group b 0 ++ (with_colon b 1 ++ (with_colon b 2 ++ with_colon b 3))

-- the last four, each after a `:`
unfoldable pub last_groups : List ℕ → List ℕ
last_groups b = with_colon b 4 ++ (with_colon b 5 ++ (with_colon b 6 ++ with_colon b 7))

-- eight groups
unfoldable pub groups_text : List ℕ → List ℕ
groups_text b = first_groups b ++ last_groups b

abbrev pub ip_text : Ip → List ℕ
ip_text (V4 octets) = octets_text octets
ip_text (V6 bytes) = 91 ∷ (groups_text bytes ++ 93 ∷ [])

-- an address, `:` and the port in decimals
abbrev pub text_of : Underlay → List ℕ
text_of u = ip_text u.ip ++ 58 ∷ decimal u.port
