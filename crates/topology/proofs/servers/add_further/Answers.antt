use Rattle.std.proofs.Common.{◌++◌, [], ◌∷◌, ap, map, ◌∙◌}
use Rattle.topology.specs.LeftOut.{further, left}
use Rattle.topology.specs.Place.{NamedPlace}
use Rattle.topology.specs.Servers.{further_at}
use Rattle.topology.proofs.ListLemmas.{each_next, map_push}
use Rattle.topology.proofs.servers.add_further.Goals as goal

pub loop-name-init : goal.loop-name-init
loop-name-init c = rw (c.into_iter-name-iterator.ensures.into_iter_gives, ← c.iter-further.ensures.rest, c.in-Some.ensures.steps)

pub loop-name-preserved : goal.loop-name-preserved
loop-name-preserved c =
    each_next (further_at c.args.kind) _ c.loop-name.name-iterator c.next-in-loop-name.new.self (c.in-Some-2.name.now, c.in-Some-2._server.now) _ _ c.as_str.result.now
    c.in-Some-2.ensures.steps c.as_str.ensures.value c.loop-name.invariant
    (ap (map left) c.in_ok-push.ensures.items ∙ map_push left _ _ ∙ ap (λ (p : NamedPlace). map left c.loop-name.left_out.items ++ further p ∷ []) c.place_of.ensures)
