-- The rules over small cases, which say what the definitions are to mean.
use Rattle.std.specs.Prelude.{◌≡◌, true, false, List, [], ◌∷◌, ℕ}
use Rattle.flow_key.specs.Flow.{Flow}
use Rattle.order_laws.specs.Item.{Arrival}
use Rattle.process_packet.specs.declared.config.Config.{Config}
use Rattle.process_packet.specs.declared.underlay.Underlay.{Underlay}
use Rattle.router_rules.specs.Rules.{kinds, rules, same_flow}

abbrev pub flow_to : List ℕ → Flow
flow_to addresses = record { flow_id = 1; host_kinds = 0; addresses = addresses; high = false }

abbrev pub arrived : Underlay → List ℕ → Arrival kinds
arrived source bytes = record { link = 0; number = 1; datagram = record { interface = 0; source = source; moment = 0; bytes = bytes } }

-- Flows to other addresses are others; the traffic class of expedited forwarding is urgent, and the next one isn't.
pub record AreTold (c : Config) (source : Underlay) : Type 0 where
  pub same : same_flow (flow_to (10 ∷ 2 ∷ [])) (flow_to (10 ∷ 2 ∷ [])) ≡ true
  pub other : same_flow (flow_to (10 ∷ 2 ∷ [])) (flow_to (10 ∷ 3 ∷ [])) ≡ false
  pub urgent : (rules c).urgent (arrived source (11 ∷ 128 ∷ 0 ∷ 1 ∷ [])) ≡ true
  pub usual : (rules c).urgent (arrived source (11 ∷ 192 ∷ 0 ∷ 1 ∷ [])) ≡ false

abbrev pub RulesAreTold : Type 0
RulesAreTold = (c : Config) (source : Underlay) → AreTold c source
