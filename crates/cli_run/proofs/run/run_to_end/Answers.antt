use Rattle.std.proofs.Common.{rules}
use Rattle.std.specs.Io.KnownBytes.{Appends}
use Rattle.cli_io.specs.Lines.{lines_in}
use Rattle.cli_run.specs.Closing.{ready_text}
use Rattle.cli_run.proofs.RunLemmas.{ready_cut, ready_led}
use Rattle.cli_run.proofs.run.run_to_end.Goals as goal

pub returns-in-Ok : goal.returns-in-Ok
returns-in-Ok g c =
    let ready : Appends (g.W.Write.contents c.args.writer.now) (g.W.Write.contents c.write_ready.new.writer) ready_text = search rules in
    ready_led g.C.Control.closes c.lead.result (lines_in (g.R.Read.remaining c.args.reader.now)) c.args.router.now c.lead.new.router (g.W.Write.contents c.args.writer.now) (g.W.Write.contents c.write_ready.new.writer)
    (g.W.Write.contents c.lead.new.writer) ready c.lead.ensures

pub returns-in-Err : goal.returns-in-Err
returns-in-Err g c =
    ready_cut g.C.Control.closes (lines_in (g.R.Read.remaining c.args.reader.now)) c.args.router.now (g.W.Write.contents c.args.writer.now) (g.W.Write.contents c.write_ready.new.writer) c.in-Err.fault c.in-Err.ensures.fault
    c.write_ready.ensures.begins
