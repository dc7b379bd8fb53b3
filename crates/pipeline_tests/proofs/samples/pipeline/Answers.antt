use Rattle.std.proofs.Common.{◌≡◌, ℕ, List, [], ◌∷◌, sym, subst, ap, ◌∙◌}
use Rattle.std.specs.declared.alloc.Global.{Global}
use Rattle.std.specs.declared.vec.Vec.{Vec}
use Rattle.process_packet.specs.declared.arrival.Arrival.{Arrival}
use Rattle.process_packet.specs.declared.config.Config.{Config}
use Rattle.router_rules.specs.Links.{link_count, link_index}
use Rattle.pipe_model.specs.Begun.{AreArrivals, AreNumbered}
use Rattle.pipeline_tests.proofs.samples.pipeline.Goals as goal

-- two that came by the link of interface 1, the second of three
two_arrive : (c : Config) (before there after : Vec Arrival Global) (x y : Arrival) → link_count c ≡ 3 → link_index c 1 ≡ 1 → before.items ≡ [] → there.items ≡ x ∷ y ∷ [] → after.items ≡ [] → (x.link ≡ 1) × (x.number ≡ 1) → (y.link ≡ 1) × (y.number ≡ 2) → AreArrivals c (before ∷ there ∷ after ∷ [])
two_arrive c before there after x y three at_one none two none_after of_x of_y =
    let one : List Arrival → Type 0 = AreNumbered c 0 1 in
    let mid : List Arrival → Type 0 = AreNumbered c 1 1 in
    let last : List Arrival → Type 0 = AreNumbered c 2 1 in
    let number : ℕ → ℕ = link_index c in
    (sym three, (subst one (sym none) tt, (subst mid (sym two) (ap number of_x.0 ∙ at_one, of_x.1, (ap number of_y.0 ∙ at_one, of_y.1, tt)), (subst last (sym none_after) tt, tt))))

pub new-requires-3 : goal.new-requires-3
new-requires-3 c =
    let config = c.in-Ok.config in
    let three = sym c.link_count.ensures.count ∙ c.if-link_count-ne3.false in
    let at_one = sym c.link_index.ensures.index ∙ c.if-link_index-ne1.false in
    let there = two_arrive config c.new.result c.in-Ok-from_array.of_link c.new-2.result c.in-Ok-Ok.one c.in-Ok-Ok.two three at_one c.new.ensures.items c.in-Ok-from_array.ensures.items c.new-2.ensures.items c.in-Ok-Ok.ensures c.in-Ok-Ok.ensures' in
    subst (AreArrivals config) (sym c.in-Ok-from_array-2.ensures.items) there
