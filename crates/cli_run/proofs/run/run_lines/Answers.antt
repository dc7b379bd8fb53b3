use Rattle.std.proofs.Common.{Ok, Err, rules}
use Rattle.cli_io.specs.Lines.{lines_in}
use Rattle.cli_run.specs.Run.{LedReady}
use Rattle.cli_run.proofs.RunLemmas.{ran_cut, ran_reported}
use Rattle.cli_run.proofs.run.run_lines.Goals as goal

pub returns-in-Ok : goal.returns-in-Ok
returns-in-Ok g c =
    let led : LedReady g.C.Control.closes (Ok tt) (lines_in (g.R.Read.remaining c.args.reader.now)) c.args.router c.run_to_end-led.new.router (g.W.Write.contents c.args.writer.now) (g.W.Write.contents c.run_to_end-led.new.writer) =
    search rules in
    ran_reported g.C.Control.closes g.C.Control.tells c.args.links.now c.write_report.result (g.R.Read.remaining c.args.reader.now) c.args.router c.run_to_end-led.new.router c.finish-figures.result
    (g.W.Write.contents c.args.writer.now) (g.W.Write.contents c.run_to_end-led.new.writer) (g.W.Write.contents c.write_report.new.writer) led c.finish-figures.ensures c.write_report.ensures.ok c.write_report.ensures.begins
    c.write_report.ensures.fault

pub returns : goal.returns
returns g c =
    let led : LedReady g.C.Control.closes (Err c.in-Err.fault) (lines_in (g.R.Read.remaining c.args.reader.now)) c.args.router c.run_to_end-led.new.router (g.W.Write.contents c.args.writer.now)
    (g.W.Write.contents c.run_to_end-led.new.writer) = search rules in
    ran_cut g.C.Control.closes g.C.Control.tells c.args.links.now (g.R.Read.remaining c.args.reader.now) c.args.router c.run_to_end-led.new.router (g.W.Write.contents c.args.writer.now)
    (g.W.Write.contents c.run_to_end-led.new.writer) c.in-Err.fault led
