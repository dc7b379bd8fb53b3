-- What holds of each answer.
use Rattle.std.specs.Prelude.{◌≡◌, ◌≤◌, ℕ, List, take, length, Option, Some, None}
use Rattle.scion_packet.specs.OneHop.{IsOneHopPacket, OneHopPacket, one_hop_fault, one_hop_packet_of, one_hop_spelling}

-- It spells a packet on a path of one hop, so a reader finds no fault and reads just this packet; and it is short.
pub record IsGoodAnswer (p : OneHopPacket) : Type 0 where
  pub lawful : IsOneHopPacket p
  pub no_fault : one_hop_fault (one_hop_spelling p) ≡ None
  pub read_back : p ≡ one_hop_packet_of (one_hop_spelling p)
  pub short : length (one_hop_spelling p) ≤ 116

abbrev pub IfAnswered : Option OneHopPacket → (OneHopPacket → Type 0) → Type 0
IfAnswered None P = Unit {0}
IfAnswered (Some p) P = P p

-- The first bytes of the buffer are the answer.
pub record IsWritten (p : OneHopPacket) (len : ℕ) (buffer : List ℕ) : Type 0 where
  pub whole : len ≡ length (one_hop_spelling p)
  pub text : take len buffer ≡ one_hop_spelling p
  pub good : IsGoodAnswer p
