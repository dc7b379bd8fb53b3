use Rattle.std.proofs.Common.{◌≤◌, length, rules, subst, sym}
use Rattle.udp_router.specs.OverUdp.{Router}
use Rattle.udp_router.specs.Run.{IsNew}
use Rattle.udp_router.proofs.Devices.{few_links}
use Rattle.udp_router.proofs.Led.{led_ill, led_well, not_shown, not_shown_fault}
use Rattle.udp_router.proofs.run.lead.Goals as goal

pub show-requires : goal.show-requires
show-requires g c =
    let few : length c.args.links.now ≤ g.N.RunBrand.workers = few_links c.args.running.config c.args.links.now g.N.RunBrand.workers c.requires.links c.requires.workers in search (rules, few)

pub returns-in-Ok-run_lines-clause-ran : goal.returns-in-Ok-run_lines-clause-ran
returns-in-Ok-run_lines-clause-ran g c =
    let P : Router → Type 0 = λ r. IsNew c.args.running.config r in
    let new : IsNew c.args.running.config c.of-router.result = subst P (sym c.of-router.ensures) c.requires.new in
    led_well c.args.running.config c.args.links.now c.of-router.result c.requires.links new (g.O.Write.contents c.args.writer.now) (g.O.Write.contents c.run_lines.new.writer) (g.I.Read.remaining c.args.reader.now)
    c.in-Ok-run_lines.ensures

pub returns-in-Err-run_lines-clause-ran : goal.returns-in-Err-run_lines-clause-ran
returns-in-Err-run_lines-clause-ran g c =
    let P : Router → Type 0 = λ r. IsNew c.args.running.config r in
    let new : IsNew c.args.running.config c.of-router.result = subst P (sym c.of-router.ensures) c.requires.new in
    led_ill c.args.running.config c.args.links.now c.of-router.result c.requires.links new (g.O.Write.contents c.args.writer.now) (g.O.Write.contents c.run_lines.new.writer) (g.I.Read.remaining c.args.reader.now)
    c.in-Err-run_lines.fault c.in-Err-run_lines.ensures

pub returns-in-Err-clause-ran : goal.returns-in-Err-clause-ran
returns-in-Err-clause-ran g c = not_shown c.args.running.config c.in-Err.fault (g.I.Read.remaining c.args.reader.now) (g.O.Write.contents c.args.writer.now) c.in-Err.ensures

pub returns-in-Err-clause-fault : goal.returns-in-Err-clause-fault
returns-in-Err-clause-fault g c = not_shown_fault c.args.running.config c.in-Err.fault c.in-Err.ensures
