use Rattle.std.proofs.Common.{◌≡◌, ℕ, ◌+◌, List, [], ◌∷◌, ◌++◌, length, sym, ap, ◌∙◌, arith, rules}
use Rattle.std.proofs.lemmas.Iterator.Adapters.{YieldsList-from_vec}
use Rattle.std.proofs.lemmas.Iterator.Consumers.{YieldsList-turn}
use Rattle.replay_laws.specs.Pipe.{Pipe}
use Rattle.router_rules.specs.Rules.{kinds}
use Rattle.replay_state.specs.Arrivals.{source, sources_from}
use Rattle.replay_steps.proofs.SourceLemmas.{length-sources_from, sources_from_more}
use Rattle.replay_steps.proofs.state.sources.Goals as goal

pub loop-of_link-preserved : goal.loop-of_link-preserved
loop-of_link-preserved c =
    let before = c.loop-of_link.yielded in
    let xs = c.in-Some.of_link in
    let pushed : c.push.new.self.items ≡ c.loop-of_link.pipes.items ++ c.in_ok-pipe.pipe ∷ [] = search (rules, c.push.ensures.items, c.if-is_err.ensures) in
    let place : c.len.result ≡ 0 + length before = omega (arith, c.len.ensures, ap length c.loop-of_link.invariant, length-sources_from 0 before) in
    let made : c.in_ok-pipe.pipe ≡ source (0 + length before) xs.items = c.in_ok-pipe.ensures ∙ ap (λ (k : ℕ). source k xs.items) place in
    pushed
    ∙ (
    ap (λ (ps : List (Pipe kinds)). ps ++ c.in_ok-pipe.pipe ∷ []) c.loop-of_link.invariant
    ∙ (ap (λ (p : Pipe kinds). sources_from 0 before ++ p ∷ []) made ∙ sym (sources_from_more 0 before xs))
    )

pub overflow_cast-len : goal.overflow_cast-len
overflow_cast-len c =
    let from = c.into_iter-of_link-iterator.result in
    let start = c.into_iter-of_link-iterator.ensures.into_iter_gives in
    let all = YieldsList-from_vec {s = from} c.args.arrivals.items start.0 (search rules) in
    let turn = YieldsList-turn all c.loop-of_link.yielded c.loop-of_link.of_link-iterator c.loop-of_link.yielded_by c.next.result c.next.new.self c.in-Some.of_link c.in-Some.is c.next.ensures.steps in
    omega (arith, turn.0, ap length c.loop-of_link.invariant, length-sources_from 0 c.loop-of_link.yielded, c.len.ensures, c.requires.few)
