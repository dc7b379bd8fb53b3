use Rattle.std.proofs.Common.{◌≡◌, ℕ, Bool, List, [], Some, true, take, subst, rules}
use Rattle.std.specs.Io.KnownBytes.{Appends}
use Rattle.cli_io.specs.Lines.{Same, left_of, lines_in}
use Rattle.cli_io.specs.declared.fault.LinesFault.TheVariants as faults
use Rattle.cli_run.specs.Command.{command_of}
use Rattle.cli_run.specs.declared.command.Command.TheVariants as command
use Rattle.cli_run.specs.Run.{Obeys}
use Rattle.cli_run.proofs.RunLemmas.{goes_none, goes_on, led_and_cut, led_cut, led_lack, led_out, led_to_end}
use Rattle.cli_run.proofs.run.lead.Goals as goal

pub returns-in-Err : goal.returns-in-Err
returns-in-Err g c =
    led_cut g.C.Control.closes (lines_in (g.R.Read.remaining c.args.reader.now)) (lines_in (g.R.Read.remaining c.loop.reader)) c.args.router.now c.loop.router (g.W.Write.contents c.args.writer.now)
    (g.W.Write.contents c.loop.writer) c.in-Err.fault c.in-Err.ensures.fault c.loop.invariant

pub returns-in-Ok-false-obey : goal.returns-in-Ok-false-obey
returns-in-Ok-false-obey g c =
    let read : Same (lines_in (g.R.Read.remaining c.loop.reader)) (left_of true c.next_line.new.line.items (g.R.Read.remaining c.next_line.new.reader)) = rw (← c.in-Ok-true.field-0-test) c.in-Ok-true.ensures.lines in
    let ends : (command_of c.next_line.new.line.items ≡ Some command.End) × (c.obey.new.router ≡ c.loop.router) = search rules in
    led_to_end g.C.Control.closes (lines_in (g.R.Read.remaining c.args.reader.now)) (lines_in (g.R.Read.remaining c.loop.reader)) (g.R.Read.remaining c.next_line.new.reader) c.next_line.new.line.items c.args.router.now c.loop.router
    c.obey.new.router (g.W.Write.contents c.args.writer.now) (g.W.Write.contents c.loop.writer) c.loop.invariant read ends

pub returns-in-Err-obey : goal.returns-in-Err-obey
returns-in-Err-obey g c =
    let read : Same (lines_in (g.R.Read.remaining c.loop.reader)) (left_of true c.next_line.new.line.items (g.R.Read.remaining c.next_line.new.reader)) = rw (← c.in-Ok-true.field-0-test) c.in-Ok-true.ensures.lines in
    let obeys : (one : List ℕ) × Obeys g.C.Control.closes (command_of c.next_line.new.line.items) c.loop.router one c.obey.new.router = rw (← c.as_slice.ensures.value) c.in-Err-obey.ensures in
    led_lack g.C.Control.closes (lines_in (g.R.Read.remaining c.args.reader.now)) (lines_in (g.R.Read.remaining c.loop.reader)) (g.R.Read.remaining c.next_line.new.reader) c.next_line.new.line.items c.args.router.now c.loop.router
    c.obey.new.router (g.W.Write.contents c.args.writer.now) (g.W.Write.contents c.loop.writer) faults.Memory tt c.loop.invariant read obeys

pub returns-in-Err-send : goal.returns-in-Err-send
returns-in-Err-send g c =
    let read : Same (lines_in (g.R.Read.remaining c.loop.reader)) (left_of true c.next_line.new.line.items (g.R.Read.remaining c.next_line.new.reader)) = rw (← c.in-Ok-true.field-0-test) c.in-Ok-true.ensures.lines in
    let wrote : (k : ℕ) × Appends (g.W.Write.contents c.loop.writer) (g.W.Write.contents c.send.new.writer) (take k c.obey.new.text.items) = rw (← c.as_slice-in-loop.ensures.value) c.in-Err-send.ensures.begins in
    let obeys : Obeys g.C.Control.closes (command_of c.next_line.new.line.items) c.loop.router c.obey.new.text.items c.obey.new.router = search rules in
    led_and_cut g.C.Control.closes (lines_in (g.R.Read.remaining c.args.reader.now)) (lines_in (g.R.Read.remaining c.loop.reader)) (g.R.Read.remaining c.next_line.new.reader) c.next_line.new.line.items c.obey.new.text.items
    wrote.0 c.args.router.now c.loop.router c.obey.new.router (g.W.Write.contents c.args.writer.now) (g.W.Write.contents c.loop.writer) (g.W.Write.contents c.send.new.writer) faults.Output tt c.loop.invariant read obeys
    wrote.1

pub loop-preserved : goal.loop-preserved
loop-preserved g c =
    let read : Same (lines_in (g.R.Read.remaining c.loop.reader)) (left_of true c.next_line.new.line.items (g.R.Read.remaining c.next_line.new.reader)) = rw (← c.in-Ok-true.field-0-test) c.in-Ok-true.ensures.lines in
    let wrote : Appends (g.W.Write.contents c.loop.writer) (g.W.Write.contents c.send.new.writer) c.obey.new.text.items = rw (← c.as_slice-in-loop.ensures.value) c.in-Ok.ensures.ok in
    let obeys : Obeys g.C.Control.closes (command_of c.next_line.new.line.items) c.loop.router c.obey.new.text.items c.obey.new.router = search rules in
    goes_on g.C.Control.closes (lines_in (g.R.Read.remaining c.args.reader.now)) (lines_in (g.R.Read.remaining c.loop.reader)) (g.R.Read.remaining c.next_line.new.reader) c.next_line.new.line.items c.obey.new.text.items
    c.args.router.now c.loop.router c.obey.new.router (g.W.Write.contents c.args.writer.now) (g.W.Write.contents c.loop.writer) (g.W.Write.contents c.send.new.writer) c.loop.invariant read obeys wrote

pub returns : goal.returns
returns g c =
    led_cut g.C.Control.closes (lines_in (g.R.Read.remaining c.args.reader.now)) (lines_in (g.R.Read.remaining c.loop.reader)) c.args.router.now c.loop.router (g.W.Write.contents c.args.writer.now)
    (g.W.Write.contents c.loop.writer) faults.Input tt c.loop.invariant

pub loop-init : goal.loop-init
loop-init g c = goes_none g.C.Control.closes (lines_in (g.R.Read.remaining c.args.reader.now)) c.args.router.now (g.W.Write.contents c.args.writer.now)

pub returns-in-Ok-false : goal.returns-in-Ok-false
returns-in-Ok-false g c =
    let read : Same (lines_in (g.R.Read.remaining c.loop.reader)) (Some []) =
    subst (λ (more : Bool). Same (lines_in (g.R.Read.remaining c.loop.reader)) (left_of more c.next_line.new.line.items (g.R.Read.remaining c.next_line.new.reader))) c.in-Ok-false.field-0-test c.in-Ok-false.ensures.lines in
    led_out g.C.Control.closes (lines_in (g.R.Read.remaining c.args.reader.now)) (lines_in (g.R.Read.remaining c.loop.reader)) c.args.router.now c.loop.router (g.W.Write.contents c.args.writer.now)
    (g.W.Write.contents c.loop.writer) c.loop.invariant read
