-- The Internet checksum (RFC 1071), over an SCMP message and its pseudo header (SCMP specification, "Checksum Calculation").
use Rattle.std.specs.Prelude.{◌≡◌, ◌≤◌, ℕ, ◌+◌, ◌-◌, ◌*◌, nat_lt, List, [], ◌∷◌, ◌++◌, length, if◌then◌else◌}
use Rattle.field_rows.specs.Row.{Field, field, rows}
use Rattle.scion_packet.specs.Header.{HeaderFields, domain_table}

-- bytes as 16-bit words; a zero byte fills an odd end
abbrev pub words : List ℕ → List ℕ
words [] = []
words (a ∷ []) = (a * 256) ∷ []
words (a ∷ b ∷ bytes) = (a * 256 + b) ∷ words bytes

-- two words added in one's complement: a carry out of the high end is added at the low end
abbrev pub plus : ℕ → ℕ → ℕ
plus a b = if nat_lt (a + b) 65536 then a + b else a + b - 65535

abbrev pub ones_complement_sum : List ℕ → ℕ
ones_complement_sum [] = 0
ones_complement_sum (w ∷ ws) = plus w (ones_complement_sum ws)

-- The word is what the total is with its carries added at the low end, each of which takes 65,536 off and adds 1.
pub record Carried (word total : ℕ) : Type 0 where
  pub carries : ℕ
  pub parts : total ≡ word + 65535 * carries
  pub fits : word ≤ 65535
  pub zero_of_zero : word ≡ 0 → total ≡ 0

-- the complement of the sum of the bytes' words
abbrev pub checksum : List ℕ → ℕ
checksum bytes = 65535 - ones_complement_sum (words bytes)

-- ---- what the checksum of a message is taken over

abbrev pub address_text : HeaderFields → List ℕ
address_text h =
    rows (domain_table h.destination) ++ (rows (domain_table h.source) ++ (h.destination.host ++ h.source.host))

-- after the addresses: the length of the message, 3 zero bytes, and the number of SCMP
abbrev pub pseudo_table : ℕ → List (List Field)
pseudo_table len = (field 32 len ∷ []) ∷ (field 24 0 ∷ []) ∷ (field 8 202 ∷ []) ∷ []

-- the pseudo header and the message
abbrev pub summed : HeaderFields → List ℕ → List ℕ
summed h message = address_text h ++ (rows (pseudo_table (length message)) ++ message)
