use Rattle.std.proofs.Common.{List, sym, ap, ◌∙◌, subst, arith}
use Rattle.std.proofs.lemmas.List.{length-map}
use Rattle.replay_laws.specs.Pipe.{Pipe}
use Rattle.replay_laws.specs.Start.{first_world}
use Rattle.process_packet.specs.Neighbours.{link_id}
use Rattle.router_rules.specs.Rules.{kinds, rules}
use Rattle.pipe_model.specs.Headline.{IsReached}
use Rattle.pipe_model.proofs.Starts.{begun_is_reached}
use Rattle.pipe_model.proofs.world.World.new.Goals as goal

pub sources-requires : goal.sources-requires
sources-requires c = let links = c.args.config.links.items in omega (arith, c.requires.0, length-map links link_id, c.args.config.few_links)

pub invariant_of-result : goal.invariant_of-result
invariant_of-result c =
    let config = c.args.config in
    let world = ap (λ (ps : List (Pipe kinds)). first_world (rules config) config.capacity ps) c.in_ok-sources.ensures in
    subst (IsReached config) (sym (c.in-Ok.ensures ∙ world)) (begun_is_reached config c.args.arrivals.items c.requires)
