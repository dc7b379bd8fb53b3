use Rattle.std.proofs.Common.{◌≡◌, Bool, true, not, if◌then◌else◌, ◌∷◌, [], ◌++◌, refl, ap, sym, ◌∙◌, length, arith, length-append}
use Rattle.replay_laws.specs.Marks.{ends, has_close}
use Rattle.replay_laws.specs.Pipe.{Entry}
use Rattle.router_rules.specs.Rules.{kinds}
use Rattle.replay_places.specs.WorkerIndex.{worker_of}
use Rattle.replay_state.specs.Items.{item_in}
use Rattle.replay_state.proofs.KeptLemmas.{ended_pushed, marked_pushed, take_pushed}
use Rattle.replay_state.proofs.pipe.Pipe.push.Goals as goal

pub invariant_of-self-2 : goal.invariant_of-self-2
invariant_of-self-2 c =
    let xs = c.self.inside.history.items in
    let ys = c.push.new.self.items in
    let e : Entry kinds = record { from = worker_of c.args.from; item = item_in c.args.item } in
    let went = c.is_err.ensures.negation ∙ ap not c.if-is_err.false in
    let grown : ys ≡ xs ++ e ∷ [] =
    c.push.ensures.items ∙ (ap (λ (z : Bool). if z then xs ++ c.new.result ∷ [] else xs) went ∙ ap (λ (d : Entry kinds). xs ++ d ∷ []) c.new.ensures)
    in
    let same = take_pushed c.self.inside.taken xs ys e grown c.self.invariant.within in
    record {
      within = omega (arith, c.self.invariant.within, simp length-append at (ap length grown));
      marked = marked_pushed _ _ xs ys e c.self.invariant.marked c.is_close-closes.ensures grown;
      shut = c.self.invariant.shut ∙ sym (ap has_close same);
      ended = λ W. ended_pushed c.self.inside.ended.items c.note_end.new.ended.items c.args.from true xs ys e W c.in_ok-note_end.ensures refl refl grown (c.self.invariant.ended W);
      ends = c.self.invariant.ends ∙ sym (ap ends same);
    }
