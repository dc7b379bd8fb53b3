use Rattle.std.proofs.Common.{◌≡◌, ◌∙◌}
use Rattle.cli_replay.specs.Gathered.{starting}
use Rattle.cli_io.specs.Lines.{left_of}
use Rattle.cli_io.specs.declared.fault.LinesFault.TheVariants.{Memory}
use Rattle.cli_replay.proofs.ReplayLemmas.{cut_in_front, replayed, replayed_to}
use Rattle.cli_replay.proofs.replay.replay_lines.Goals as goal

pub returns-in-Err : goal.returns-in-Err
returns-in-Err g c = cut_in_front c.args.config (g.R.Read.remaining c.args.reader.now) c.in-Err.fault (g.W.Write.contents c.args.writer.now) c.in-Err.ensures.fault

pub returns-in_default-new : goal.returns-in_default-new
returns-in_default-new g c = cut_in_front c.args.config (g.R.Read.remaining c.args.reader.now) Memory (g.W.Write.contents c.args.writer.now) tt

pub returns-in-Err-run_steps : goal.returns-in-Err-run_steps
returns-in-Err-run_steps g c =
    let front = c.in-Ok-gather.ensures.front in
    let left = left_of c.in-Ok-gather.front.more c.gather.new.line.items (g.R.Read.remaining c.gather.new.reader) in
    let begun : c.in-Ok-new.world ≡ starting c.args.config front.0 = c.in-Ok-new.ensures ∙ (c.gathered_begin.ensures c.args.config front.0 c.gather.new.lists.items front.1).1 in
    replayed_to c.args.config (g.R.Read.remaining c.args.reader.now) left c.in-Ok-gather.front.number c.gather.new.lists.items c.in-Ok-new.world c.run_steps.new.world c.in-Err-run_steps.fault (g.W.Write.contents c.args.writer.now)
    (g.W.Write.contents c.run_steps.new.writer) front begun (rw c.in-Err-run_steps.is at c.run_steps.ensures)

pub returns : goal.returns
returns g c =
    let front = c.in-Ok-gather.ensures.front in
    let left = left_of c.in-Ok-gather.front.more c.gather.new.line.items (g.R.Read.remaining c.gather.new.reader) in
    let begun : c.in-Ok-new.world ≡ starting c.args.config front.0 = c.in-Ok-new.ensures ∙ (c.gathered_begin.ensures c.args.config front.0 c.gather.new.lists.items front.1).1 in
    replayed c.args.config (g.R.Read.remaining c.args.reader.now) left c.in-Ok-gather.front.number c.gather.new.lists.items c.in-Ok-new.world c.run_steps.new.world c.write_report-reported.result (g.W.Write.contents c.args.writer.now)
    (g.W.Write.contents c.run_steps.new.writer) (g.W.Write.contents c.write_report-reported.new.writer) front begun (rw c.in-Ok-run_steps.is at c.run_steps.ensures) c.write_report-reported.ensures.ok c.write_report-reported.ensures.begins
    c.write_report-reported.ensures.fault
