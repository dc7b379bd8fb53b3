use Rattle.std.proofs.Common.{◌≡◌, ◌+◌, drop}
use Rattle.order_laws.specs.Item.{is_one}
use Rattle.replay_laws.specs.Place.{in_pipes}
use Rattle.router_rules.specs.Links.{link_count}
use Rattle.router_rules.specs.Rules.{rules}
use Rattle.replay_state.specs.Sent.{first}
use Rattle.pipe_model.proofs.place.find_in_pipes.Given as goal

abbrev pub invariant-loop-i : goal.invariant-loop-i
invariant-loop-i l = first (in_pipes (rules l.config) (is_one l.link l.number) (link_count l.config + l.i) (drop l.i l.pipes)) ≡ first (in_pipes (rules l.config) (is_one l.link l.number) (link_count l.config) l.pipes)
