use Rattle.std.proofs.Common.{sym, ◌∙◌, arith}
use Rattle.std.proofs.lemmas.List.{length-take-le}
use Rattle.router_rules.proofs.PortLemmas.{ascends, number_found, number_missing}
use Rattle.router_rules.proofs.ports.Ports.place_of.Goals as goal

pub returns-in-Ok : goal.returns-in-Ok
returns-in-Ok c = rw (sym c.self.view_is) (λ k of. number_found k _ of c.in-Ok.place c.args.id c.in-Ok.ensures.bound (c.in-Ok.ensures.ok 0))

pub returns-in-Err : goal.returns-in-Err
returns-in-Err c = rw (sym c.self.view_is) (λ k of.
    let places = c.in-Err.ensures.position (ascends k _ of c.args.id) in
    sym (length-take-le c.self.inside.count c.self.inside.interfaces (omega (arith, c.self.told.0, c.self.invariant)))
    ∙ number_missing k _ of c.in-Err.field-0 c.args.id places.0 places.1)
