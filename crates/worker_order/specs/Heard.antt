-- What a source tells.
use Rattle.std.specs.Prelude.{◌≡◌, ◌+◌, ℕ, List, [], ◌∷◌, Option, Some}
use Rattle.order_laws.specs.Item.{Arrival}
use Rattle.process_packet.specs.declared.underlay.Underlay.{Underlay}
use Rattle.router_rules.specs.Rules.{kinds}

pub data Heard : Type 0 where
  Gave : Underlay → ℕ → List ℕ → Heard  -- a datagram: its sender, the moment, its bytes
  WasQuiet : Heard
  HadFailed : Heard
  WasAtEnd : Heard

abbrev pub arrival : (link interface number : ℕ) → Underlay → ℕ → List ℕ → Arrival kinds
arrival link interface number source moment bytes = record { link = link; number = number; datagram = record { interface = interface; source = source; moment = moment; bytes = bytes } }

-- the datagrams told, as they arrive on a link of this number and interface, numbered from n
abbrev pub given : (link interface n : ℕ) → List Heard → List (Arrival kinds)
given link interface n [] = []
given link interface n (Gave source moment bytes ∷ hs) = arrival link interface n source moment bytes ∷ given link interface (n + 1) hs
given link interface n (WasQuiet ∷ hs) = given link interface n hs
given link interface n (HadFailed ∷ hs) = given link interface n hs
given link interface n (WasAtEnd ∷ hs) = given link interface n hs

-- what a source told, where it tells, are these arrivals
abbrev pub TellsOf : (link interface : ℕ) → Option (List Heard) → List (Arrival kinds) → Type 0
TellsOf link interface told arrivals = (hs : List Heard) → told ≡ Some hs → given link interface 1 hs ≡ arrivals

abbrev pub ToldNothing : {X : Type 0} → Option (List X) → Type 0
ToldNothing told = (xs : List _) → told ≡ Some xs → xs ≡ []
