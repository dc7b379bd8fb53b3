use Rattle.std.proofs.Common.{◌≡◌, drop}
use Rattle.std.specs.List.{flat_map}
use Rattle.order_laws.specs.Item.{is_one}
use Rattle.replay_laws.specs.Place.{in_sent}
use Rattle.replay_state.specs.Sent.{first}
use Rattle.replay_state.proofs.sent.find_in_outboxes.Given as goal

abbrev pub invariant-loop-outbox : goal.invariant-loop-outbox
invariant-loop-outbox l = first (flat_map (in_sent (is_one l.arrived l.number)) (drop l.outbox-index l.links)) ≡ first (flat_map (in_sent (is_one l.arrived l.number)) l.links)
