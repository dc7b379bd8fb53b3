use Rattle.std.proofs.Common.{◌≡◌, ℕ, List, false, sym, subst, ap, ap₂, ◌∙◌}
use Rattle.order_laws.specs.Item.{Item}
use Rattle.replay_laws.specs.Next as next
use Rattle.process_packet.specs.Decide.{decide, moved}
use Rattle.process_packet.specs.Network.{network}
use Rattle.process_packet.specs.declared.config.Config.{Config}
use Rattle.process_packet.specs.declared.decision.Decision.{Decision}
use Rattle.process_packet.specs.declared.decision.Decision.TheVariants as decision
use Rattle.process_packet.specs.declared.decision.Problem.{Problem}
use Rattle.router_rules.specs.Rules.{by_decision, rules}
use Rattle.router_rules.proofs.AnsweredLemmas.{answered_soundly}
use Rattle.process_packet.proofs.KindLemmas.{answered_unchanged}
use Rattle.packet_answer.specs.Answer.{IsAnswerable}
use Rattle.replay_state.specs.declared.came.Came.{Came}
use Rattle.replay_state.specs.Items.{arrival_in}
use Rattle.replay_state.proofs.rules.decide.Goals as goal

as_they_came : (r : Config) (x : Came) (found : Decision) (problem : Problem) (bytes : List ℕ) → found ≡ decide (network r) x.interface x.source x.now x.bytes
    → bytes ≡ moved (network r) x.interface x.source x.now x.bytes → found ≡ decision.Answer problem → bytes ≡ x.bytes
as_they_came r x found problem bytes found-is bytes-is told = bytes-is ∙ answered_unchanged (network r) x.interface x.source x.now x.bytes problem (sym found-is ∙ told)

-- what a decision and the bytes after it make of a datagram
made : (r : Config) (x : Came) (found told : Decision) (bytes : List ℕ) → found ≡ decide (network r) x.interface x.source x.now x.bytes → bytes ≡ moved (network r) x.interface x.source x.now x.bytes
    → found ≡ told → next.decided (arrival_in x) (by_decision r x.interface told bytes) ≡ next.decided (arrival_in x) ((rules r).decide (arrival_in x))
made r x found told bytes found-is bytes-is same =
    ap₂ (λ (d : Decision) (t : List ℕ). next.decided (arrival_in x) (by_decision r x.interface d t)) (sym same ∙ found-is) bytes-is

pub invariant_of-result : goal.invariant_of-result
invariant_of-result c =
    let x = c.args.packet.now.came in
    let r = c.args.config.now in
    let told = answered_soundly c.answers_are_sound.ensures (network r) x.interface x.source x.now x.bytes c.in_ok-decision.bytes c.in_ok-decision.decision c.in_ok-decision.ensures.decision c.in_ok-decision.ensures.bytes c.in-Answer.problem c.in-Answer.is in
    record { packet_is_answerable = subst (λ (y : Came). IsAnswerable y.bytes c.in-Answer.problem) (sym c.with-came.ensures) told.0 }

pub returns-in-Send : goal.returns-in-Send
returns-in-Send c =
    let x = c.args.packet.now.came in
    let r = c.args.config.now in
    let bytes = c.in_ok-decision.bytes in
    ap (λ (l : ℕ). next.Makes (Item.Out (record { arrived = x.link; number = x.number; answer = false; link = l; parcel = record { came_by = x.interface; to = c.in-Send.to; bytes = bytes } }))) c.link_index.ensures.index
    ∙ made r x c.in_ok-decision.decision (decision.Send c.in-Send.link c.in-Send.to) bytes c.in_ok-decision.ensures.decision c.in_ok-decision.ensures.bytes c.in-Send.is

pub returns-in-Answer : goal.returns-in-Answer
returns-in-Answer c =
    let x = c.args.packet.now.came in
    let r = c.args.config.now in
    let problem = c.in-Answer.problem in
    let bytes = c.in_ok-decision.bytes in
    let same = as_they_came r x c.in_ok-decision.decision problem bytes c.in_ok-decision.ensures.decision c.in_ok-decision.ensures.bytes c.in-Answer.is in
    let kept : c.with-came.result ≡ x = c.with-came.ensures ∙ ap (λ (t : List ℕ). record x { bytes = t }) same in
    ap (λ (y : Came). next.Makes (Item.Request (arrival_in y) problem)) kept
    ∙ made r x c.in_ok-decision.decision (decision.Answer problem) bytes c.in_ok-decision.ensures.decision c.in_ok-decision.ensures.bytes c.in-Answer.is

pub returns-in-Drop : goal.returns-in-Drop
returns-in-Drop c =
    made c.args.config.now c.args.packet.now.came c.in_ok-decision.decision (decision.Drop c.in-Drop.reason) c.in_ok-decision.bytes c.in_ok-decision.ensures.decision c.in_ok-decision.ensures.bytes c.in-Drop.is
