use Rattle.std.proofs.Common.{◌≡◌, drop}
use Rattle.order_laws.specs.Item.{is_one}
use Rattle.replay_laws.specs.Place.{in_hands}
use Rattle.router_rules.specs.Rules.{rules}
use Rattle.replay_state.specs.Sent.{first}
use Rattle.pipe_model.proofs.place.find_in_hands.Given as goal

abbrev pub invariant-loop-seat : goal.invariant-loop-seat
invariant-loop-seat l = first (in_hands (rules l.config) (is_one l.link l.number) l.seat (drop l.seat l.hands)) ≡ first (in_hands (rules l.config) (is_one l.link l.number) 0 l.hands)
