use Rattle.std.proofs.Common.{◌≡◌, ◌++◌, ◌∷◌, [], refl, rules, arith}
use Rattle.std.proofs.lemmas.Grind.{common_steps}
use Rattle.std.proofs.lemmas.List.{get_or_default}
use Rattle.pipe_model.proofs.Turns.{turn_ok, turn_not, turns_made}
use Rattle.pipe_model.proofs.world.World.run.Goals as goal
use Rattle.pipe_model.proofs.world.World.run.Goals.{in-Ok, in-Err-NotNow+else-is_err}

pub loop-i-preserved : goal.loop-i-preserved
loop-i-preserved c =
    let p = c.args.self.now in
    let ss = c.args.steps.now in
    let i = c.loop-i.i in
    let h = c.loop-i-test.true in
    let inv = c.loop-i.invariant in
    elim c.match-step.branch [
      | in-Ok w ↦
          let q = turn_ok p ss i _ c.loop-i.places.items h (get_or_default ss i _ _ h) c.loop-i.self c.step.new.self (inv.world, inv.places) w.in-Ok.ensures.ok in
          let e : c.match-step.places.items ≡ c.loop-i.places.items = grind (arith, common_steps, w.places-is) in
          record { world = q.0; places = rw e q.1 }
      | in-Err-NotNow+else-is_err w ↦
          let q = turn_not p ss i _ c.loop-i.places.items h (get_or_default ss i _ _ h) c.loop-i.self c.step.new.self (inv.world, inv.places) (w.in-Err-NotNow.ensures.not_now.0 (cc (w.in-Err-NotNow.field-0-is))) w.in-Err-NotNow.ensures.err in
          let e : c.match-step.places.items ≡ c.loop-i.places.items ++ i ∷ [] = first_of (search (rules, w.places-is), grind (arith, common_steps, w.places-is, w.push.ensures.items, w.if-is_err.ensures)) in
          record { world = q.0; places = rw e q.1 }
    ]

pub loop-i-init : goal.loop-i-init
loop-i-init c = record { world = refl; places = rw c.new-places.ensures.items refl }

pub returns-clause-ok : goal.returns-clause-ok
returns-clause-ok c =
    let at = c.loop-i in
    (turns_made c.args.self.now at.self c.args.steps.now at.i at.places.items (omega arith) at.invariant.world at.invariant.places).0

pub returns-clause-skipped : goal.returns-clause-skipped
returns-clause-skipped c =
    let at = c.loop-i in
    (turns_made c.args.self.now at.self c.args.steps.now at.i at.places.items (omega arith) at.invariant.world at.invariant.places).1
