use Rattle.std.proofs.Common.{Result, subst, sym}
use Rattle.run_pipes.specs.Closing.{Closing}
use Rattle.run_pipes.specs.declared.closing.CloseFault.{CloseFault}
use Rattle.udp_router.specs.OverUdp.{Closes, Router}
use Rattle.udp_router.proofs.over_udp.OverUdpControl.close_link.Goals as goal

pub returns : goal.returns
returns g c =
    let P : Result (Unit {0}) CloseFault → Type 0 = λ r. Closing c.self.inside.running.config c.args.link r c.self.inside.running.crew.shutters c.close_link.new.self.crew.shutters in
    let Q : Router → Type 0 = λ r. Closes r c.args.link c.closing_of-closing.result c.close_link.new.self in
    subst Q c.self.view_is (record { marks = subst P (sym c.closing_of-closing.ensures) c.close_link.ensures.closing; same = c.close_link.ensures.same })
