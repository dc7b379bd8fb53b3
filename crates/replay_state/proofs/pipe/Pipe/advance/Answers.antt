use Rattle.std.proofs.Common.{◌≡◌, true, false, sym, ap, subst, ◌∙◌, arith}
use Rattle.replay_laws.specs.Marks.{is_close, is_end}
use Rattle.replay_laws.specs.Pipe.{Pipe, front, items}
use Rattle.std.specs.Prelude.{IsSome}
use Rattle.router_rules.specs.Rules.{kinds}
use Rattle.replay_state.proofs.KeptLemmas.{shut_taken, front_within, ends_taken, ends_few}
use Rattle.replay_state.proofs.pipe.Pipe.advance.Goals as goal

pub overflow_add-self-then-ends : goal.overflow_add-self-then-ends
overflow_add-self-then-ends c =
    let few = ends_few c.self.inside.taken (items c.self.inside.history.items) in
    let count = c.self.invariant.ends in
    let within = c.self.invariant.within in
    omega arith

pub invariant_of-self : goal.invariant_of-self
invariant_of-self c =
    let xs = c.self.inside.history.items in
    let t = c.self.inside.taken in
    let here = front_within t xs (subst (λ (p : Pipe kinds). IsSome (front p)) (sym c.self.view_is) c.requires) in
    let closes = c.is_close-closes.ensures ∙ ap is_close c.item-first.ensures in
    let end : is_end c.index.result.now.item ≡ true = sym (ap is_end c.item-first.ensures) ∙ (sym c.is_end-ends.ensures ∙ c.if-ends.true) in
    let ended = ends_taken t xs c.index.result.now true here c.index.ensures end in
    record {
      within = omega (arith, here);
      marked = c.self.invariant.marked;
      ended = c.self.invariant.ended;
      shut = shut_taken _ _ t xs c.index.result.now c.self.invariant.shut closes here c.index.ensures;
      ends = omega (arith, c.self.invariant.ends, ended);
    }

pub invariant_of-self-else-ends : goal.invariant_of-self-else-ends
invariant_of-self-else-ends c =
    let xs = c.self.inside.history.items in
    let t = c.self.inside.taken in
    let here = front_within t xs (subst (λ (p : Pipe kinds). IsSome (front p)) (sym c.self.view_is) c.requires) in
    let closes = c.is_close-closes.ensures ∙ ap is_close c.item-first.ensures in
    let end : is_end c.index.result.now.item ≡ false = sym (ap is_end c.item-first.ensures) ∙ (sym c.is_end-ends.ensures ∙ c.if-ends.false) in
    let ended = ends_taken t xs c.index.result.now false here c.index.ensures end in
    record {
      within = omega (arith, here);
      marked = c.self.invariant.marked;
      ended = c.self.invariant.ended;
      shut = shut_taken _ _ t xs c.index.result.now c.self.invariant.shut closes here c.index.ensures;
      ends = omega (arith, c.self.invariant.ends, ended);
    }
