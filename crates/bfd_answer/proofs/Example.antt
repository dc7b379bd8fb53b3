-- An answer, byte by byte, computed from the definitions alone; its MAC was made by OpenSSL.
use Rattle.std.proofs.Common.{◌≡◌, ℕ, true, List, [], ◌∷◌, Some, None, refl, arith}
use Rattle.std.specs.Prelude.{option_map}
use Rattle.aes128_core.specs.Field.{times, inverse}
use Rattle.aes128_core.specs.SBox.{s_box}
use Rattle.aes128_core.specs.Rounds.{sub_bytes, shift_rows, mix_column, mix_columns, add_round_key, rounds}
use Rattle.aes128_core.specs.KeyExpansion.{x_power, word_change, key_words}
use Rattle.aes128_core.specs.Aes128.{cipher}
use Rattle.cmac_core.specs.Block.{xor_blocks, doubled}
use Rattle.cmac_core.specs.Cmac.{last_block, first_blocks, tag_from}
use Rattle.hop_check.specs.Mac.{mac6}
use Rattle.scion_header.specs.declared.domain.Domain.{Domain}
use Rattle.scion_packet.specs.OneHop.{one_hop_spelling}
use Rattle.segment_switch.specs.declared.kind.LinkKind.TheVariants.{Parent}
use Rattle.process_packet.specs.declared.neighbours.Bands.TheVariants.{One}
use Rattle.process_packet.specs.declared.underlay.Ip.TheVariants.{V4}
use Rattle.process_packet.specs.Network.{Network}
use Rattle.bfd_answer.specs.Answer.{begun_at, bfd_reply, hop_out}

abbrev key : List ℕ
key = 0x2b ∷ 0x7e ∷ 0x15 ∷ 0x16 ∷ 0x28 ∷ 0xae ∷ 0xd2 ∷ 0xa6 ∷ 0xab ∷ 0xf7 ∷ 0x15 ∷ 0x88 ∷ 0x09 ∷ 0xcf ∷ 0x4f ∷ 0x3c ∷ []

abbrev there : Domain
there = record { isd = 1; autonomous_system = 0xff0000000111; isd_fits = omega arith; autonomous_system_fits = omega arith }

-- of 1-ff00:0:110, with a link from 10.1.0.1 to 10.1.0.2 in 1-ff00:0:111
abbrev network : Network
network = record {
  isd = 1;
  autonomous_system = 0xff0000000110;
  key = key;
  host_port = 30041;
  dispatched_ports = None;
  links = record {
    id = 1;
    kind = Parent;
    local = record { ip = V4 (10 ∷ 1 ∷ 0 ∷ 1 ∷ []); port = 40000 };
    remote = record { ip = V4 (10 ∷ 1 ∷ 0 ∷ 2 ∷ []); port = 40000 };
    bands = One;
    neighbor = Some there;
    bfd = true;
  } ∷ [];
  siblings = [];
  services = [];
}

-- a session that is down says so
abbrev came : List ℕ
came =
    0x0b ∷ 0x80 ∷ 0xde ∷ 0xad ∷ 0xcb ∷ 0x11 ∷ 0x00 ∷ 0x18 ∷ 0x02 ∷ 0x00 ∷ 0x00 ∷ 0x00
    ∷ 0x00 ∷ 0x01 ∷ 0xff ∷ 0x00 ∷ 0x00 ∷ 0x00 ∷ 0x01 ∷ 0x10 ∷ 0x00 ∷ 0x01 ∷ 0xff ∷ 0x00 ∷ 0x00 ∷ 0x00 ∷ 0x01 ∷ 0x11
    ∷ 0x0a ∷ 0x01 ∷ 0x00 ∷ 0x01 ∷ 0x0a ∷ 0x01 ∷ 0x00 ∷ 0x02
    ∷ 0x01 ∷ 0x00 ∷ 0xbe ∷ 0xef ∷ 0x65 ∷ 0x00 ∷ 0x03 ∷ 0xde
    ∷ 0x00 ∷ 0x3f ∷ 0x00 ∷ 0x00 ∷ 0x00 ∷ 0x11 ∷ 0xa0 ∷ 0xa1 ∷ 0xa2 ∷ 0xa3 ∷ 0xa4 ∷ 0xa5
    ∷ 0x00 ∷ 0x00 ∷ 0x00 ∷ 0x00 ∷ 0x00 ∷ 0x00 ∷ 0x00 ∷ 0x00 ∷ 0x00 ∷ 0x00 ∷ 0x00 ∷ 0x00
    ∷ 0x20 ∷ 0x40 ∷ 0x03 ∷ 0x18 ∷ 0xc0 ∷ 0xff ∷ 0xee ∷ 0x01 ∷ 0x00 ∷ 0x00 ∷ 0x00 ∷ 0x01 ∷ 0x00 ∷ 0x0f ∷ 0x42 ∷ 0x40 ∷ 0x00 ∷ 0x03 ∷ 0x0d ∷ 0x40 ∷ 0x00 ∷ 0x00 ∷ 0x00 ∷ 0x00 ∷ []

-- and hears that it is heard
abbrev answer : List ℕ
answer =
    0x0b ∷ 0x8b ∷ 0xfd ∷ 0xa0 ∷ 0xcb ∷ 0x11 ∷ 0x00 ∷ 0x18 ∷ 0x02 ∷ 0x00 ∷ 0x00 ∷ 0x00
    ∷ 0x00 ∷ 0x01 ∷ 0xff ∷ 0x00 ∷ 0x00 ∷ 0x00 ∷ 0x01 ∷ 0x11 ∷ 0x00 ∷ 0x01 ∷ 0xff ∷ 0x00 ∷ 0x00 ∷ 0x00 ∷ 0x01 ∷ 0x10
    ∷ 0x0a ∷ 0x01 ∷ 0x00 ∷ 0x02 ∷ 0x0a ∷ 0x01 ∷ 0x00 ∷ 0x01
    ∷ 0x01 ∷ 0x00 ∷ 0x9a ∷ 0xf3 ∷ 0x65 ∷ 0x00 ∷ 0x03 ∷ 0xe8
    ∷ 0x00 ∷ 0x3f ∷ 0x00 ∷ 0x00 ∷ 0x00 ∷ 0x01 ∷ 0x9a ∷ 0xf3 ∷ 0x75 ∷ 0x9e ∷ 0x50 ∷ 0x86
    ∷ 0x00 ∷ 0x00 ∷ 0x00 ∷ 0x00 ∷ 0x00 ∷ 0x00 ∷ 0x00 ∷ 0x00 ∷ 0x00 ∷ 0x00 ∷ 0x00 ∷ 0x00
    ∷ 0x20 ∷ 0x80 ∷ 0x03 ∷ 0x18 ∷ 0x00 ∷ 0x00 ∷ 0x00 ∷ 0x01 ∷ 0xc0 ∷ 0xff ∷ 0xee ∷ 0x01 ∷ 0x00 ∷ 0x0f ∷ 0x42 ∷ 0x40 ∷ 0x00 ∷ 0x03 ∷ 0x0d ∷ 0x40 ∷ 0x00 ∷ 0x00 ∷ 0x00 ∷ 0x00 ∷ []

mac_example : mac6 key 0 (begun_at 1694499816) (hop_out 1 []) ≡ 0x9a ∷ 0xf3 ∷ 0x75 ∷ 0x9e ∷ 0x50 ∷ 0x86 ∷ []
unfolding times inverse s_box x_power word_change key_words sub_bytes shift_rows mix_column mix_columns add_round_key rounds cipher xor_blocks doubled last_block first_blocks tag_from
mac_example = refl

pub answer_example : option_map one_hop_spelling (bfd_reply network 1 1694499816 came) ≡ Some answer
unfolding times inverse s_box x_power word_change key_words sub_bytes shift_rows mix_column mix_columns add_round_key rounds cipher xor_blocks doubled last_block first_blocks tag_from bfd_reply
answer_example = refl

-- by the internal network, and by a link that isn't there, none
pub none_inside : bfd_reply network 0 1694499816 came ≡ None
unfolding bfd_reply
none_inside = refl

pub none_elsewhere : bfd_reply network 2 1694499816 came ≡ None
unfolding bfd_reply
none_elsewhere = refl
