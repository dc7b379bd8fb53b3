-- What was sent, from what is kept of it.
use Rattle.std.specs.Prelude.{ℕ, Bool, if◌then◌else◌, List, [], ◌∷◌, Option, Some, None}
use Rattle.order_laws.specs.Item.{Outgoing}
use Rattle.replay_laws.specs.Place.{Place, Answered, Sent}
use Rattle.router_rules.specs.Rules.{kinds}
use Rattle.router_rules.specs.declared.outgoing.Outgoing.{Outgoing as Left}
use Rattle.replay_state.specs.declared.sent.Way.{Way}

abbrev pub rejoined : Way → Left × List ℕ → Outgoing kinds
rejoined w e = record { arrived = w.arrived; number = e.0.number; answer = e.0.answer; link = w.link; parcel = record { came_by = e.0.arrived; to = e.0.to; bytes = e.1 } }

-- the ways and the entries side by side
abbrev pub joined : List Way → List (Left × List ℕ) → List (Outgoing kinds)
joined [] es = []
joined (w ∷ ws) [] = []
joined (w ∷ ws) (e ∷ es) = rejoined w e ∷ joined ws es

-- as callers are told
abbrev pub left : Outgoing kinds → Left × List ℕ
left o = (record { arrived = o.parcel.came_by; number = o.number; answer = o.answer; to = o.parcel.to }, o.parcel.bytes)

-- where what was sent stands, as itself or as an answer
abbrev pub place_of_sent : Bool → Place kinds
place_of_sent answer = if answer then Answered else Sent

abbrev pub first : {X : Type 0} → List X → Option X
first [] = None
first (x ∷ xs) = Some x
