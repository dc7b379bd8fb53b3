use Rattle.std.proofs.Common.{List, [], ◌∷◌, sym, subst, ◌∙◌}
use Rattle.process_packet.specs.Departure.{Departs, TellsVerdict}
use Rattle.process_packet.specs.Rows.{Row, Verdict, delivery, egress_request, leave, switch, unknown_egress, wrong_pair}
use Rattle.process_packet.specs.PacketState.{past_switch}
use Rattle.process_packet.proofs.RowLemmas.{ended, last_row, refusal_told, went_on}
use Rattle.process_packet.proofs.PathHopLemmas.{on_path}
use Rattle.process_packet.proofs.SwitchLemmas.{keeps_past_switch, same_past_switch}
use Rattle.process_packet.proofs.packet_view.PacketView.deliver_or_forward.Goals as goal

-- the rows after the delivery, after the switch, and so on
abbrev after_delivery : List Row
after_delivery = switch ∷ unknown_egress ∷ wrong_pair ∷ egress_request ∷ leave ∷ []

abbrev after_switch : List Row
after_switch = unknown_egress ∷ wrong_pair ∷ egress_request ∷ leave ∷ []

abbrev after_egress : List Row
after_egress = wrong_pair ∷ egress_request ∷ leave ∷ []

abbrev after_pair : List Row
after_pair = egress_request ∷ leave ∷ []

pub unchanged-requires : goal.unchanged-requires
unchanged-requires c = record { on = on_path c.args.self.now c.args.meta.now c.args.path.now c.requires.meta c.requires.current c.requires.count }

pub leave-requires : goal.leave-requires
leave-requires c =
    record { on = on_path c.switch.new.self c.args.meta.now c.args.path.now c.requires.meta c.switch.ensures.current (c.switch.ensures.count ∙ c.requires.count) }

pub returns-in_err-to : goal.returns-in_err-to
returns-in_err-to c s p shows same header bytes keeps alike =
    refusal_told _ p _ _ c.from_residual.ensures.1 (ended s _ delivery after_delivery (c.in_err-to.ensures s shows same header bytes))

pub returns-in-Some : goal.returns-in-Some
returns-in-Some c s p shows same header bytes keeps alike =
    subst (λ (v : Verdict). Departs c.unchanged.result v p) (sym (ended s _ delivery after_delivery (rw c.in-Some.is at (c.in_ok-to.ensures s shows same header bytes)))) (c.unchanged.ensures s p shows keeps)

pub returns-in_err-switch : goal.returns-in_err-switch
returns-in_err-switch c s p shows same header bytes keeps alike =
    refusal_told _ p _ _ c.from_residual-in_err-switch.ensures.1
    (went_on s s delivery after_delivery (rw c.in_default.is at (c.in_ok-to.ensures s shows same header bytes)) ∙ ended s _ switch after_switch (c.in_err-switch.ensures.says s shows same alike))

pub returns-in_err-exit : goal.returns-in_err-exit
returns-in_err-exit c s p shows same header bytes keeps alike =
    let u = past_switch s in
    let there = same_past_switch s in
    let past = went_on s s delivery after_delivery (rw c.in_default.is at (c.in_ok-to.ensures s shows same header bytes))
    ∙ went_on s u switch after_switch (c.in_ok-switch.ensures.says s shows same alike) in
    refusal_told _ p _ _ c.from_residual-in_err-exit.ensures.1
    (past ∙ ended u _ unknown_egress after_egress (c.in_err-exit.ensures.says u (c.in_ok-switch.ensures.shows s shows alike) (same ∙ there.network)))

pub returns-in_err-wrong_pair : goal.returns-in_err-wrong_pair
returns-in_err-wrong_pair c s p shows same header bytes keeps alike =
    let u = past_switch s in
    let network = same ∙ (same_past_switch s).network in
    let seen = c.in_ok-switch.ensures.shows s shows alike in
    let past = went_on s s delivery after_delivery (rw c.in_default.is at (c.in_ok-to.ensures s shows same header bytes))
    ∙ went_on s u switch after_switch (c.in_ok-switch.ensures.says s shows same alike)
    ∙ went_on u u unknown_egress after_egress (c.in_ok-exit.ensures.says u seen network) in
    refusal_told _ p _ _ c.from_residual-in_err-wrong_pair.ensures.1
    (past ∙ ended u _ wrong_pair after_pair (c.in_err-wrong_pair.ensures u seen network (c.in_ok-exit.ensures.exit u seen network)))

pub returns-in_err-egress_request : goal.returns-in_err-egress_request
returns-in_err-egress_request c s p shows same header bytes keeps alike =
    let u = past_switch s in
    let there = same_past_switch s in
    let network = same ∙ there.network in
    let seen = c.in_ok-switch.ensures.shows s shows alike in
    let exit = c.in_ok-exit.ensures.exit u seen network in
    let past = went_on s s delivery after_delivery (rw c.in_default.is at (c.in_ok-to.ensures s shows same header bytes))
    ∙ went_on s u switch after_switch (c.in_ok-switch.ensures.says s shows same alike)
    ∙ went_on u u unknown_egress after_egress (c.in_ok-exit.ensures.says u seen network)
    ∙ went_on u u wrong_pair after_pair (c.in_ok-wrong_pair.ensures u seen network exit) in
    refusal_told _ p _ _ c.from_residual-in_err-egress_request.ensures.1
    (past ∙ ended u _ egress_request (leave ∷ []) (c.in_err-egress_request.ensures u seen (header ∙ there.header) exit (bytes ∙ there.payload)))

pub returns : goal.returns
returns c s p shows same header bytes keeps alike =
    let u = past_switch s in
    let there = same_past_switch s in
    let network = same ∙ there.network in
    let seen = c.in_ok-switch.ensures.shows s shows alike in
    let exit = c.in_ok-exit.ensures.exit u seen network in
    let past = went_on s s delivery after_delivery (rw c.in_default.is at (c.in_ok-to.ensures s shows same header bytes))
    ∙ went_on s u switch after_switch (c.in_ok-switch.ensures.says s shows same alike)
    ∙ went_on u u unknown_egress after_egress (c.in_ok-exit.ensures.says u seen network)
    ∙ went_on u u wrong_pair after_pair (c.in_ok-wrong_pair.ensures u seen network exit)
    ∙ went_on u u egress_request (leave ∷ []) (c.in_ok-egress_request.ensures u seen (header ∙ there.header) exit (bytes ∙ there.payload))
    ∙ last_row u leave in
    let kept = keeps_past_switch c.args.self.now c.switch.new.self s p c.switch.ensures.turned c.switch.ensures.entered keeps in
    subst (λ (v : Verdict). TellsVerdict v p c.leave.result) (sym past) (c.leave.ensures u p seen kept exit)
