use Rattle.std.proofs.Common.{◌≡◌, ℕ, List, drop, sym, ap, ◌∙◌, subst}
use Rattle.std.specs.List.{flat_map}
use Rattle.std.specs.Prelude.{option_map}
use Rattle.order_laws.specs.Item.{is_one}
use Rattle.replay_laws.specs.Pipe.{Pipe}
use Rattle.replay_laws.specs.Place.{in_fates, in_hands, in_pipes, in_sent, places}
use Rattle.replay_laws.specs.World.{World}
use Rattle.router_rules.specs.Links.{link_count}
use Rattle.router_rules.specs.Rules.{kinds}
use Rattle.router_rules.specs.Rules as router
use Rattle.pipe_model.specs.Shown.{stands_in}
use Rattle.replay_state.specs.Sent.{first}
use Rattle.pipe_model.proofs.Places.{last_of_four}
use Rattle.pipe_model.proofs.place.find.Goals as goal

pub returns : goal.returns
returns c =
    let config = c.args.config.now in
    let R = router.rules config in
    let named = is_one c.args.link c.args.number in
    let f = stands_in config in
    let s = c.state.inside in
    let pipes_are = c.after-pipes.ensures ∙ ap (λ (k : ℕ). drop k s.pipes) c.link_count.ensures.count in
    let no_hand = sym c.find_in_hands.ensures ∙ c.in_default.is in
    let no_pipe = ap (λ (ps : List (Pipe kinds)). option_map f (first (in_pipes R named (link_count config) ps))) (sym pipes_are) ∙ (sym c.find_in_pipes.ensures ∙ c.in_default-find_in_pipes.is) in
    let none_sent = sym c.find_in_sent.ensures ∙ c.in_default-find_in_sent.is in
    let P : World kinds → Type 0 = λ w. c.find_in_fates.result ≡ option_map f (first (places R c.args.link c.args.number w)) in
    subst P c.state.view_is
    (
    c.find_in_fates.ensures
    ∙ sym (last_of_four f (in_hands R named 0 s.hands) (in_pipes R named (link_count config) (drop (link_count config) s.pipes)) (flat_map (in_sent named) s.sent) (in_fates named s.fates) no_hand no_pipe none_sent)
    )
