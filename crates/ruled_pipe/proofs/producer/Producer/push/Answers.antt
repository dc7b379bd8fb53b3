use Rattle.std.proofs.Common.{ℕ, ◌<◌, length, rules, refl, subst, arith}
use Rattle.ruled_pipe.proofs.Alone.{alone}
use Rattle.ruled_pipe.specs.Rule.{known_by}
use Rattle.ruled_pipe.specs.Producer.{entry, refusal, WasFull}
use Rattle.ruled_pipe.proofs.Steps.{pushes_from, after_push, full_after_push, same_after_refusal, told_full, full_after_refusal, below_after_push, below_after_refusal}
use Rattle.ruled_pipe.proofs.producer.Producer.push.Goals as goal

pub push_as-requires-clause-rule : goal.push_as-requires-clause-rule
push_as-requires-clause-rule g c = rw c.deref.ensures (pushes_from _ _ _ _ _ _ c.self.invariant.1 refl)

pub invariant_of-self : goal.invariant_of-self
invariant_of-self g c =
    let x = entry c.self.inside.number c.args.load in
    (search rules, after_push _ _ (known_by c.self.inside.seat) _ x c.self.invariant.1 c.in-Ok.ensures.rule, full_after_push _ _ (known_by c.self.inside.seat) _ x _ c.in-Ok.ensures.rule c.self.invariant.2, below_after_push _ (known_by c.self.inside.seat) _ x c.in-Ok.ensures.rule c.self.invariant.3)

pub invariant_of-self-in-Err : goal.invariant_of-self-in-Err
invariant_of-self-in-Err g c =
    let x = entry c.self.inside.number c.args.load in
    let rule = c.in-Err.ensures.rule in
    let full = told_full _ _ (known_by c.self.inside.seat) x c.self.invariant.1 refl (rw c.deref.ensures at rule.2) in (
      search rules,
      same_after_refusal _ _ _ _ c.self.invariant.1 rule.1,
      full_after_refusal _ _ (known_by c.self.inside.seat) _ c.self.inside.notes _ x _ rule.1 c.self.invariant.2 full rule.0 c.note_refusal.ensures,
      below_after_refusal _ (known_by c.self.inside.seat) _ rule.1 c.self.invariant.3,
    )

pub returns-in-Err-clause-full : goal.returns-in-Err-clause-full
returns-in-Err-clause-full g c =
    let x = entry c.self.inside.number c.args.load in
    let rule = c.in-Err.ensures.rule in
    let full = told_full _ _ (known_by c.self.inside.seat) x c.self.invariant.1 refl (rw c.deref.ensures at rule.2) in rw (← c.self.view_is) full

pub returns-in-Err-clause-alone : goal.returns-in-Err-clause-alone
returns-in-Err-clause-alone g c =
    λ one.
    let s = c.args.self.now in
    let r = refusal (entry s.number c.args.load) (length s.offers) in
    let below : s.number < s.producers = rw (← c.self.view_is) c.self.invariant.3 in
    let P : ℕ → Type 0 = λ m. WasFull m s.number s.capacity s.offers r in
    alone s.number s.capacity s.offers r (omega arith) (subst P one (returns-in-Err-clause-full g c))

pub returns-in-Err-clause-step : goal.returns-in-Err-clause-step
returns-in-Err-clause-step g c = search rules
