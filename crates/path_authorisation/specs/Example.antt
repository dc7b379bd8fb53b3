-- The premise can be met: a net, two beaconed segments, and a packet over both that each router sends on; one with another MAC is refused.
use Rattle.std.specs.Prelude.{◌≡◌, ℕ, List, [], ◌∷◌, Option, Some, None}
use Rattle.process_packet.specs.declared.decision.Decision.TheVariants as decision
use Rattle.process_packet.specs.declared.underlay.Ip.TheVariants.{V4}
use Rattle.process_packet.specs.declared.underlay.Underlay.{Underlay}
use Rattle.process_packet.specs.Decide.{decide}
use Rattle.net_laws.specs.Configured.{AreNumbered}
use Rattle.net_laws.specs.Example.{address}
use Rattle.net_laws.specs.Examples.{moment}
use Rattle.net_laws.specs.ExampleTurn.{descent, family, neighbour, other_child, parent, second_parent}
use Rattle.net_laws.specs.Net.{Agrees, Router}
use Rattle.path_authorisation.specs.Beaconed.{AreAllBeaconed, NoIdentifierCollides, NoMacIsForged}
use Rattle.path_authorisation.specs.Sendings.{IsOnLongPath, IsWalk, Sending}

-- A datagram on a path of two segments, one over a core link and one down from there (`descent`), with this byte for its cursor, these two for the identifier of each segment, and this one as the
-- last of the first MAC: from 1-ff00:0:120, 10.1.0.5 to 1-ff00:0:112, 10.2.0.7.
abbrev pub datagram : ℕ → ℕ → ℕ → ℕ → ℕ → ℕ → List ℕ
datagram cursor high low next_high next_low last =
    0x00 ∷ 0x00 ∷ 0x00 ∷ 0x01 ∷ 0x11 ∷ 0x1a ∷ 0x00 ∷ 0x08 ∷ 0x01 ∷ 0x00 ∷ 0x00 ∷ 0x00
    ∷ 0x00 ∷ 0x01 ∷ 0xff ∷ 0x00 ∷ 0x00 ∷ 0x00 ∷ 0x01 ∷ 0x12
    ∷ 0x00 ∷ 0x01 ∷ 0xff ∷ 0x00 ∷ 0x00 ∷ 0x00 ∷ 0x01 ∷ 0x20
    ∷ 0x0a ∷ 0x02 ∷ 0x00 ∷ 0x07
    ∷ 0x0a ∷ 0x01 ∷ 0x00 ∷ 0x05
    ∷ cursor ∷ 0x00 ∷ 0x20 ∷ 0x80
    ∷ 0x01 ∷ 0x00 ∷ high ∷ low ∷ 0x65 ∷ 0x00 ∷ 0x00 ∷ 0x00
    ∷ 0x01 ∷ 0x00 ∷ next_high ∷ next_low ∷ 0x65 ∷ 0x00 ∷ 0x00 ∷ 0x00
    ∷ 0x00 ∷ 0x3f ∷ 0x00 ∷ 0x00 ∷ 0x00 ∷ 0x13 ∷ 0x93 ∷ 0x84 ∷ 0xfb ∷ 0x72 ∷ 0x3a ∷ last
    ∷ 0x00 ∷ 0x3f ∷ 0x00 ∷ 0x03 ∷ 0x00 ∷ 0x00 ∷ 0xdf ∷ 0xcd ∷ 0xb1 ∷ 0x1a ∷ 0xe2 ∷ 0x71
    ∷ 0x00 ∷ 0x3f ∷ 0x00 ∷ 0x00 ∷ 0x00 ∷ 0x02 ∷ 0xa6 ∷ 0x31 ∷ 0x29 ∷ 0xb2 ∷ 0xec ∷ 0x35
    ∷ 0x00 ∷ 0x3f ∷ 0x00 ∷ 0x12 ∷ 0x00 ∷ 0x00 ∷ 0x14 ∷ 0x7f ∷ 0xfe ∷ 0x1c ∷ 0x21 ∷ 0xd6
    ∷ 0x75 ∷ 0x59 ∷ 0x75 ∷ 0x59 ∷ 0x00 ∷ 0x08 ∷ 0x00 ∷ 0x00
    ∷ []

abbrev pub sends : ℕ → Router → ℕ → Underlay → List ℕ → ℕ → Option Underlay → Sending
sends router here link source bytes out to = record { router = router; here = here; link = link; source = source; moment = moment; bytes = bytes; out = out; to = to }

abbrev pub from_host : Underlay
from_host = record { ip = V4 (10 ∷ 1 ∷ 0 ∷ 5 ∷ []); port = 30041 }

abbrev pub to_host : Underlay
to_host = record { ip = V4 (10 ∷ 2 ∷ 0 ∷ 7 ∷ []); port = 30041 }

-- over the core link, to the router with the link down, down, and to its host
abbrev pub first_sending : Sending
first_sending = sends 4 neighbour 0 from_host (datagram 0x00 0x33 0x33 0x22 0x22 0x7f) 19 None

abbrev pub second_sending : Sending
second_sending = sends 1 parent 3 (address 3 2 40000) (datagram 0x01 0xa0 0xb7 0x22 0x22 0x7f) 0 (Some (address 0 2 30000))

abbrev pub third_sending : Sending
third_sending = sends 2 second_parent 0 (address 0 1 30000) (datagram 0x42 0xa0 0xb7 0x22 0x22 0x7f) 2 None

abbrev pub last_sending : Sending
last_sending = sends 3 other_child 18 (address 2 1 40000) (datagram 0x43 0xa0 0xb7 0x84 0x13 0x7f) 0 (Some to_host)

abbrev pub later_sendings : List Sending
later_sendings = second_sending ∷ third_sending ∷ last_sending ∷ []

-- The packet is sent at each of its four stops, and none of their MACs is forged. With another last byte of its first MAC it isn't
-- sent: its sender is told so (type 4, code 51, at the hop field).
pub record PremiseIsMet : Type 0 where
  pub agrees : Agrees family
  pub numbered : AreNumbered family
  pub beaconed : AreAllBeaconed family descent
  pub apart : NoIdentifierCollides descent
  pub walk : IsWalk family (first_sending ∷ later_sendings)
  pub long : IsOnLongPath first_sending
  pub unforged : NoMacIsForged descent (first_sending ∷ later_sendings)
  pub refused : decide neighbour.network 0 from_host moment (datagram 0x00 0x33 0x33 0x22 0x22 0x7e) ≡ decision.Answer (record { kind = 4; code = 51; pointer = 56 })
