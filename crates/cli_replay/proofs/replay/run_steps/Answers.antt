use Rattle.std.proofs.Common.{◌≡◌, Bool, true, false, ap, rules}
use Rattle.cli_io.specs.Lines.{left_of}
use Rattle.cli_io.specs.declared.fault.LinesFault.TheVariants.{Input}
use Rattle.cli_replay.proofs.ReplayLemmas.{goes_none, goes_on, ran_and_cut, ran_cut, ran_out, ran_to}
use Rattle.cli_replay.proofs.replay.run_steps.Goals as goal

pub loop-number-init : goal.loop-number-init
loop-number-init g c = goes_none c.args.front.number c.args.world.now (left_of c.args.front.more c.args.line.now.items (g.R.Read.remaining c.args.reader.now)) (g.W.Write.contents c.args.writer.now)

pub returns-then-not-more : goal.returns-then-not-more
returns-then-not-more g c =
    let known = left_of c.args.front.more c.args.line.now.items (g.R.Read.remaining c.args.reader.now) in
    let left = left_of c.loop-number.more c.loop-number.line.items (g.R.Read.remaining c.loop-number.reader) in
    let none : c.loop-number.more ≡ false = search rules in
    ran_out c.args.front.number c.args.world.now known c.loop-number.number c.loop-number.world left (g.W.Write.contents c.args.writer.now) (g.W.Write.contents c.loop-number.writer)
    (ap (λ (b : Bool). left_of b c.loop-number.line.items (g.R.Read.remaining c.loop-number.reader)) none) c.loop-number.invariant

pub returns-in-Err : goal.returns-in-Err
returns-in-Err g c =
    let known = left_of c.args.front.more c.args.line.now.items (g.R.Read.remaining c.args.reader.now) in
    let more : c.loop-number.more ≡ true = search rules in
    ran_to c.args.front.number c.args.world.now known c.loop-number.number c.loop-number.world c.act.new.world c.loop-number.line.items (g.R.Read.remaining c.loop-number.reader) (g.W.Write.contents c.args.writer.now)
    (g.W.Write.contents c.loop-number.writer) (g.W.Write.contents c.act.new.writer) c.in-Err.fault (rw more at c.loop-number.invariant) (rw (c.in-Err.is, c.as_slice.ensures.value) at c.act.ensures)

pub returns-in-Err-next_line : goal.returns-in-Err-next_line
returns-in-Err-next_line g c =
    let known = left_of c.args.front.more c.args.line.now.items (g.R.Read.remaining c.args.reader.now) in
    let more : c.loop-number.more ≡ true = search rules in
    ran_and_cut c.args.front.number c.args.world.now known c.loop-number.number c.loop-number.world c.act.new.world c.act.new.world c.loop-number.line.items (g.R.Read.remaining c.loop-number.reader)
    (g.W.Write.contents c.args.writer.now) (g.W.Write.contents c.loop-number.writer) (g.W.Write.contents c.act.new.writer) c.in-Err-next_line.fault c.in-Err-next_line.ensures.fault
    (rw more at c.loop-number.invariant) (rw (c.in-Ok.is, c.as_slice.ensures.value) at c.act.ensures)

pub loop-number-preserved : goal.loop-number-preserved
loop-number-preserved g c =
    let known = left_of c.args.front.more c.args.line.now.items (g.R.Read.remaining c.args.reader.now) in
    let after = left_of c.in-Ok-next_line.more c.next_line.new.line.items (g.R.Read.remaining c.next_line.new.reader) in
    let more : c.loop-number.more ≡ true = search rules in
    goes_on c.args.front.number c.args.world.now known c.loop-number.number c.loop-number.world c.act.new.world c.loop-number.line.items (g.R.Read.remaining c.loop-number.reader) (g.W.Write.contents c.args.writer.now)
    (g.W.Write.contents c.loop-number.writer) (g.W.Write.contents c.act.new.writer) after (rw more at c.loop-number.invariant) (rw (c.in-Ok.is, c.as_slice.ensures.value) at c.act.ensures) c.in-Ok-next_line.ensures.lines

pub returns : goal.returns
returns g c =
    let known = left_of c.args.front.more c.args.line.now.items (g.R.Read.remaining c.args.reader.now) in
    let left = left_of c.loop-number.more c.loop-number.line.items (g.R.Read.remaining c.loop-number.reader) in
    ran_cut c.args.front.number c.args.world.now known c.loop-number.number c.loop-number.world c.loop-number.world left (g.W.Write.contents c.args.writer.now) (g.W.Write.contents c.loop-number.writer) Input tt
    c.loop-number.invariant
