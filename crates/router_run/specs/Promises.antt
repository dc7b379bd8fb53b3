-- What is promised of a run, to be read aloud.
use Rattle.std.specs.Prelude.{◌≡◌, ℕ, Bool, List, map, Option, Some, slice_get}
use Rattle.order_laws.specs.Counts.{count}
use Rattle.order_laws.specs.Item.{Arrival}
use Rattle.process_packet.specs.declared.config.Config.{Config}
use Rattle.process_packet.specs.declared.totals.Totals.{Totals}
use Rattle.worker_order.specs.Heard.{Heard, TellsOf}
use Rattle.router_rules.specs.Links.{interface_at}
use Rattle.router_rules.specs.Rules.{kinds}
use Rattle.run_promises.specs.Promises.{KeepsPromises}
use Rattle.worker_laws.specs.Forwards.{Handed}
use Rattle.worker_parts.specs.Told.{Told, told_of}

module _ {S K : Type 0} (told : S → Option (List Heard)) (shown : K → Option (List Told)) where
  -- Order, one place for each packet, a reason for each drop, exact totals (`KeepsPromises`): of what each source recorded, what
  -- each sink shows that it was handed, and what the report says, link by link.
  pub record KeepsItsPromises (c : Config) (closed : ℕ → Bool) (totals : Totals) (sent : List ℕ) (sources : List S) (sinks : List K) : Type 0 where
    pub received : ℕ → List (Arrival kinds)
    pub handed : ℕ → List (Handed kinds)
    pub kept : KeepsPromises c closed received handed totals
    pub recorded : (a : ℕ) (s : S) → slice_get sources a ≡ Some s → TellsOf a (interface_at c a) (told s) (received a)
    pub shows : (l : ℕ) (k : K) → slice_get sinks l ≡ Some k → (ts : List Told) → shown k ≡ Some ts → ts ≡ map told_of (handed l)
    pub sent_are : (l n : ℕ) → slice_get sent l ≡ Some n → n ≡ count (λ (h : Handed kinds). h.took) (handed l)
