-- What contracts see of a receiver, and what a turn does.
use Rattle.std.specs.Prelude.{◌≡◌, ◌⊎◌, ◌+◌, ◌-◌, ◌^◌, ◌<◌, ◌==◌, ℕ, Bool, true, false, List, [], ◌∷◌, ◌++◌, Option, Some, None}
use Rattle.packet_ledger.specs.Share.{Held}
use Rattle.order_laws.specs.Item.{Arrival}
use Rattle.process_packet.specs.declared.config.Config.{Config}
use Rattle.ruled_pipe.specs.Consumer.{Taker}
use Rattle.router_rules.specs.Links.{interface_at}
use Rattle.router_rules.specs.Rules.{kinds}
use Rattle.worker_order.specs.Heard.{Heard, Gave, WasQuiet, HadFailed, WasAtEnd, arrival}
use Rattle.worker_order.specs.Keeping.{IsReceiving}
use Rattle.worker_laws.specs.Forwards.{AddsTo}
use Rattle.worker_parts.specs.Outlet.{Offering}
use Rattle.worker_parts.specs.Outlets.{AreUnended, Trying, senders}
use Rattle.worker_parts.specs.Turn.{ending}
use Rattle.worker_receiver.specs.Pool.{stock}
use Rattle.worker_receiver.specs.Intake.{Intake, PassedIn}
use Rattle.worker_parts.specs.declared.turn.Turn.{Turn}
use Rattle.worker_parts.specs.declared.turn.Turn.TheVariants.{Did, Quiet}

-- how many datagrams it numbered, its source, whether it met its end, and its side of the link
pub record Receiving (S : Type 0) : Type 0 where
  pub number : ℕ
  pub source : S
  pub ended : Bool
  pub side : Intake

abbrev pub with_processors : List (Offering (Arrival kinds)) → Intake → Intake
with_processors ps s = record { config = s.config; link = s.link; interface = s.interface; stock = s.stock; processors = ps; share = s.share }

abbrev pub with_share : Held → Intake → Intake
with_share share s = record { config = s.config; link = s.link; interface = s.interface; stock = s.stock; processors = s.processors; share = share }

abbrev pub failures_in : Heard → ℕ
failures_in (Gave from now bytes) = 0
failures_in WasQuiet = 0
failures_in HadFailed = 1
failures_in WasAtEnd = 0

-- the last number that it gives
abbrev pub last_number : ℕ
last_number = 2 ^ 56

abbrev pub is_datagram : Heard → Bool
is_datagram (Gave from now bytes) = true
is_datagram WasQuiet = false
is_datagram HadFailed = false
is_datagram WasAtEnd = false

-- what was told last is no datagram
abbrev pub LastIsNone : List Heard → Type 0
LastIsNone hs = (before : List Heard) × (h : Heard) × (hs ≡ before ++ h ∷ []) × (is_datagram h ≡ false)

-- it ends at its last number, or at an answer that is no datagram
abbrev pub EndsQuietly : ℕ → Option (List Heard) → Type 0
EndsQuietly number told = (number ≡ last_number) ⊎ ((hs : List Heard) → told ≡ Some hs → LastIsNone hs)

module _ {S : Type 0} where
  abbrev pub with_side : Intake → Receiving S → Receiving S
  with_side side r = record { number = r.number; source = r.source; ended = r.ended; side = side }

  abbrev pub first_receiving : Config → ℕ → S → Taker (List ℕ) → List (Offering (Arrival kinds)) → Held → Receiving S
  first_receiving c link source free processors share = record {
    number = 0;
    source = source;
    ended = false;
    side = record { config = c; link = link; interface = interface_at c link; stock = stock None free; processors = processors; share = share };
  }

  -- nothing came: it goes on, or, with the stop flag seen, it met its end
  abbrev pub Idles : Turn → Receiving S → Receiving S → Type 0
  Idles turn old new = (new.number ≡ old.number) × (new.side ≡ old.side) × (((turn ≡ Quiet) × (new.ended ≡ false)) ⊎ ((turn ≡ Did) × (new.ended ≡ true)))

  abbrev pub Heeds : Turn → Heard → Receiving S → Receiving S → Type 0
  Heeds turn (Gave from now bytes) old new =
      (turn ≡ Did) × (new.number ≡ old.number + 1) × (new.ended ≡ (old.number + 1 == last_number))
      × PassedIn (arrival old.side.link old.side.interface (old.number + 1) from now bytes) old.side new.side
  Heeds turn WasQuiet old new = Idles turn old new
  Heeds turn HadFailed old new = Idles turn old new
  Heeds turn WasAtEnd old new = (turn ≡ Did) × (new.number ≡ old.number) × (new.side ≡ old.side) × (new.ended ≡ true)

  -- it tries the end marks that it owes, and nothing else
  abbrev pub EndsReceiving : Turn → Receiving S → Receiving S → Type 0
  EndsReceiving turn old new =
      (all : Bool) × Trying (λ j. true) old.side.processors new.side.processors all × (turn ≡ ending all)
      × (new ≡ with_side (with_processors new.side.processors old.side) old)

  module _ (told : S → Option (List Heard)) (failed : S → ℕ) (same : S → S → Type 0) where
    -- the source was asked once, and answered
    abbrev pub Asked : Heard → S → S → Type 0
    Asked h old new = (failed old < 2 ^ 64 - 1) × (failed new ≡ failed old + failures_in h) × AddsTo (told old) h (told new) × same old new

    -- one turn
    abbrev pub Received : Turn → Receiving S → Receiving S → Type 0
    Received turn old new =
        ((old.ended ≡ true) × EndsReceiving turn old new)
        ⊎ ((old.ended ≡ false) × (failed old.source ≡ 2 ^ 64 - 1) × (turn ≡ Quiet) × (new ≡ old))
        ⊎ ((old.ended ≡ false) × ((h : Heard) × Asked h old.source new.source × Heeds turn h old new))

    -- it waited for its source, which told nothing new
    abbrev pub Waited : Receiving S → Receiving S → Type 0
    Waited old new = (told new.source ≡ told old.source) × (failed new.source ≡ failed old.source) × (new ≡ record { number = old.number; source = new.source; ended = old.ended; side = old.side }) × same old.source new.source

  -- its counts are posted, which leaves this share
  abbrev pub posted : Held → Receiving S → Receiving S
  posted share r = with_side (with_share share r.side) r

-- the law of a receiver, which goes on until its end
pub record KeepsReceiving (told : Option (List Heard)) (number : ℕ) (ended : Bool) (side : Intake) : Type 0 where
  pub law : IsReceiving side.config side.link side.interface number told side.stock.free.looks (senders side.processors) side.share
  pub unended : ended ≡ false → AreUnended side.processors
  pub few : ended ≡ false → number < last_number
  pub quiet : ended ≡ true → EndsQuietly number told
