use Rattle.std.proofs.Common.{◌≡◌, ℕ, ◌+◌, true, false, get_or, sym, ap, ◌∙◌}
use Rattle.std.specs.Prelude.{Option, Some, option_map}
use Rattle.order_laws.specs.Item.{is_one}
use Rattle.replay_laws.specs.Place.{Place, place_at}
use Rattle.router_rules.specs.Links.{link_count}
use Rattle.router_rules.specs.Rules.{kinds, rules}
use Rattle.pipe_model.specs.Finding.{has_in_pipe, is_among}
use Rattle.pipe_model.specs.Shown.{stands_in}
use Rattle.pipe_model.specs.declared.place.Place.{Place as Stands}
use Rattle.pipe_model.proofs.Places.{pipes_first}
use Rattle.pipe_model.proofs.place.find_in_pipes.Goals as goal

pub loop-i-preserved : goal.loop-i-preserved
loop-i-preserved c =
    let config = c.args.config.now in
    let named = is_one c.args.link c.args.number in
    let ps = c.args.pipes.now in
    let i = c.loop-i.i in
    let p = c.index-pipes-i.result in
    let here : has_in_pipe named (get_or ps i p) ≡ false =
    ap (has_in_pipe named) (sym c.index-pipes-i.is) ∙ (sym (ap (is_among named) c.held.ensures) ∙ (sym c.is_among.ensures ∙ c.if-is_among.false)) in
    sym (pipes_first (rules config) named ps (link_count config) i p false c.loop-i-test.true here) ∙ c.loop-i.invariant

pub returns-then-is_among : goal.returns-then-is_among
returns-then-is_among c =
    let config = c.args.config.now in
    let R = rules config in
    let named = is_one c.args.link c.args.number in
    let ps = c.args.pipes.now in
    let i = c.loop-i.i in
    let p = c.index-pipes-i.result in
    let here : has_in_pipe named (get_or ps i p) ≡ true =
    ap (has_in_pipe named) (sym c.index-pipes-i.is) ∙ (sym (ap (is_among named) c.held.ensures) ∙ (sym c.is_among.ensures ∙ c.if-is_among.true)) in
    let found = sym c.loop-i.invariant ∙ pipes_first R named ps (link_count config) i p true c.loop-i-test.true here in
    let told = c.place_at.ensures ∙ ap (λ (k : ℕ). stands_in config (place_at R (k + i))) c.link_count-links.ensures.count in
    ap (λ (z : Stands). Some z) told ∙ sym (ap (λ (o : Option (Place kinds)). option_map (stands_in config) o) found)
