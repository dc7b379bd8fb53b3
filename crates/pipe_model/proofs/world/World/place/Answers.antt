use Rattle.std.proofs.Common.{◌≡◌, ℕ, ◌∙◌, ap, subst}
use Rattle.std.specs.Prelude.{option_map}
use Rattle.replay_laws.specs.Place.{places}
use Rattle.router_rules.specs.Rules.{rules}
use Rattle.pipe_model.specs.Pipeline.{Pipeline}
use Rattle.pipe_model.specs.Shown.{place_of, stands_in}
use Rattle.replay_state.specs.Sent.{first}
use Rattle.pipe_model.proofs.world.World.place.Goals as goal

pub returns : goal.returns
returns c =
    let config = c.self.inside.config in
    let P : Pipeline → Type 0 = λ p. c.find.result ≡ place_of p c.args.link c.args.number in
    subst P c.self.view_is
    (c.find.ensures ∙ ap (λ (k : ℕ). option_map (stands_in config) (first (places (rules config) k c.args.number c.self.inside.state))) c.link_index.ensures.index)
