-- Addresses and numbers as a reader would read and print them, and texts that are none.
use Rattle.std.specs.Prelude.{◌≡◌, [], ◌∷◌, Some, None, codes, refl}
use Rattle.std.specs.Fmt.{digits}
use Rattle.process_packet.specs.declared.underlay.Ip.TheVariants.{V4, V6}
use Rattle.process_packet.specs.declared.underlay.Underlay.{Underlay}
use Rattle.text_values.specs.Address.{group_and_rest, groups_of, octets_of, underlay_4_of, underlay_6_of, underlay_of}
use Rattle.text_values.specs.Pieces.{number_up_to}
use Rattle.text_values.specs.Shown.{first_groups, groups_text, last_groups, octets_text, text_of}

-- 10.2.0.255, port 30000
abbrev pub address_4 : Underlay
address_4 = record { ip = V4 (10 ∷ 2 ∷ 0 ∷ 255 ∷ []); port = 30000 }

-- fd00:f00d:0:10:0:0:abc:1, port 7
abbrev pub address_6 : Underlay
address_6 = record { ip = V6 (0xfd ∷ 0 ∷ 0xf0 ∷ 0x0d ∷ 0 ∷ 0 ∷ 0 ∷ 0x10 ∷ 0 ∷ 0 ∷ 0 ∷ 0 ∷ 0x0a ∷ 0xbc ∷ 0 ∷ 1 ∷ []); port = 7 }

pub printed_4 : text_of address_4 ≡ codes "10.2.0.255:30000"
unfolding octets_text digits
printed_4 = refl

pub printed_6 : text_of address_6 ≡ codes "[fd00:f00d:0:10:0:0:abc:1]:7"
unfolding groups_text first_groups last_groups digits
printed_6 = refl

pub read_4 : underlay_of (codes "10.2.0.255:30000") ≡ Some address_4
unfolding underlay_4_of octets_of digits
read_4 = refl

pub read_6 : underlay_of (codes "[fd00:f00d:0:10:0:0:abc:1]:7") ≡ Some address_6
unfolding underlay_4_of octets_of underlay_6_of groups_of group_and_rest digits
read_6 = refl

-- in capitals, and with zeros before a group's digits
pub read_in_full : underlay_of (codes "[FD00:F00D:0000:0010:0:0:0aBc:0001]:7") ≡ Some address_6
unfolding underlay_4_of octets_of underlay_6_of groups_of group_and_rest digits
read_in_full = refl

pub no_port_0 : underlay_of (codes "10.2.0.255:0") ≡ None
unfolding underlay_4_of octets_of underlay_6_of digits
no_port_0 = refl

pub no_octet_256 : underlay_of (codes "10.2.0.256:30000") ≡ None
unfolding underlay_4_of octets_of underlay_6_of digits
no_octet_256 = refl

pub no_leading_zero : underlay_of (codes "10.2.0.25:030000") ≡ None
unfolding underlay_4_of octets_of underlay_6_of digits
no_leading_zero = refl

-- of five digits
pub no_long_group : underlay_of (codes "[fd00:f00d:0:10:0:0:0abcd:1]:7") ≡ None
unfolding underlay_4_of octets_of underlay_6_of groups_of group_and_rest digits
no_long_group = refl

pub the_limit : number_up_to 4711 (codes "4711") ≡ Some 4711
unfolding digits
the_limit = refl

pub past_the_limit : number_up_to 4710 (codes "4711") ≡ None
unfolding digits
past_the_limit = refl

pub no_sign : number_up_to 4711 (codes "+1") ≡ None
unfolding digits
no_sign = refl

pub not_empty : number_up_to 4711 [] ≡ None
unfolding digits
not_empty = refl
