use Rattle.std.proofs.Common.{◌∙◌, ap, map, List}
use Rattle.order_laws.specs.Item.{Outgoing}
use Rattle.router_rules.specs.Rules.{kinds}
use Rattle.replay_state.specs.Sent.{left}
use Rattle.replay_state.proofs.SentLemmas.{map_joined}
use Rattle.replay_state.proofs.sent.Outbox.entries.Goals as goal

pub returns : goal.returns
returns c =
    let inside = c.self.inside in
    c.as_slice.ensures.value ∙ (map_joined inside.ways.items inside.entries.items c.self.invariant ∙ ap (λ (os : List (Outgoing kinds)). map left os) c.self.view_is)
