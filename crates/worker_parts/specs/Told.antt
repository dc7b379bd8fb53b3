-- What a sink tells.
use Rattle.std.specs.Prelude.{ℕ, Bool, List}
use Rattle.order_laws.specs.Item.{Outgoing}
use Rattle.router_rules.specs.Rules.{kinds}
use Rattle.router_rules.specs.declared.outgoing.Outgoing.{Outgoing as Named}
use Rattle.worker_laws.specs.Forwards.{Handed}

-- one call of a sink: what it was handed, and whether it took it
pub record Told : Type 0 where
  pub out : Named
  pub bytes : List ℕ
  pub took : Bool

-- what leaves, as a sink is told of it: by the interface by which its packet came
abbrev pub named : Outgoing kinds → Named
named o = record { arrived = o.parcel.came_by; number = o.number; answer = o.answer; to = o.parcel.to }

abbrev pub told_of : Handed kinds → Told
told_of h = record { out = named h.item; bytes = h.item.parcel.bytes; took = h.took }

abbrev pub telling : Named → List ℕ → Bool → Told
telling out bytes took = record { out = out; bytes = bytes; took = took }
