use Rattle.std.proofs.Common.{◌≡◌, ◌+◌, ◌++◌, ◌∷◌, [], Some, None, Ok, length, length-append, refl, sym, ap, ◌∙◌, arith}
use Rattle.cli_replay.specs.ArriveLine.{datagram_of_line, incoming_datagram}
use Rattle.cli_io.specs.Lines.{lines_in}
use Rattle.cli_replay.proofs.ReplayLemmas.{front_ends, front_is_all, gathers_more, gathers_none}
use Rattle.cli_replay.proofs.replay.gather.Goals as goal

pub loop-number-init : goal.loop-number-init
loop-number-init g c = ([], c.requires, refl, gathers_none c.args.config.now (lines_in (g.R.Read.remaining c.args.reader.now)))

pub returns-in-Ok-false-clause-front : goal.returns-in-Ok-false-clause-front
returns-in-Ok-false-clause-front g c =
    let so_far = c.loop-number.invariant in
    let read = rw (c.in-Ok-false.is ∙ ap (λ b. Ok b) c.in-Ok-false.field-0-test) at c.next_line.ensures.lines in
    (so_far.0, so_far.1, so_far.2, front_is_all c.args.config.now (lines_in (g.R.Read.remaining c.args.reader.now)) (lines_in (g.R.Read.remaining c.loop-number.reader)) so_far.0 so_far.3 read)

pub returns-in-Ok-None-clause-front : goal.returns-in-Ok-None-clause-front
returns-in-Ok-None-clause-front g c =
    let so_far = c.loop-number.invariant in
    let read = rw (c.in-Ok-true.is ∙ ap (λ b. Ok b) c.in-Ok-true.field-0-test) at c.next_line.ensures.lines in
    let none = rw c.in-Ok-None.field-0-is at c.in-Ok-None.ensures.value in
    let here : datagram_of_line c.args.config.now c.next_line.new.line.items ≡ None = ap (datagram_of_line c.args.config.now) (sym c.as_slice.ensures.value) ∙ sym none in (
      so_far.0,
      so_far.1,
      so_far.2,
      front_ends c.args.config.now (lines_in (g.R.Read.remaining c.args.reader.now)) (lines_in (g.R.Read.remaining c.loop-number.reader))
          (g.R.Read.remaining c.next_line.new.reader) c.next_line.new.line.items so_far.0 so_far.3 read here,
    )

pub add_arrival-requires : goal.add_arrival-requires
add_arrival-requires g c =
    let so_far = c.loop-number.invariant in
    let has = rw c.in-Ok-Some.field-0-is at c.in-Ok-Some.ensures.there in
    rw so_far.1.count ((c.links_stand_in_order.ensures c.args.config.now).within c.in-Ok-Some.incoming.arrival_context.link has)

pub loop-number-preserved : goal.loop-number-preserved
loop-number-preserved g c =
    let so_far = c.loop-number.invariant in
    let d = incoming_datagram c.in-Ok-Some.incoming in
    let read = rw (c.in-Ok-true.is ∙ ap (λ b. Ok b) c.in-Ok-true.field-0-test) at c.next_line.ensures.lines in
    let some = rw c.in-Ok-Some.field-0-is at c.in-Ok-Some.ensures.value in
    let here : datagram_of_line c.args.config.now c.next_line.new.line.items ≡ Some d = ap (datagram_of_line c.args.config.now) (sym c.as_slice.ensures.value) ∙ sym some in
    let longer : c.loop-number.number + 1 ≡ length (so_far.0 ++ d ∷ []) + 1 = omega (arith, so_far.2, length-append so_far.0 (d ∷ [])) in (
      so_far.0 ++ d ∷ [],
      c.in-Ok.ensures so_far.0 so_far.1,
      longer,
      gathers_more c.args.config.now (lines_in (g.R.Read.remaining c.args.reader.now)) (lines_in (g.R.Read.remaining c.loop-number.reader)) (lines_in (g.R.Read.remaining c.next_line.new.reader))
          (g.R.Read.remaining c.next_line.new.reader) c.next_line.new.line.items so_far.0 d so_far.3 read here refl,
    )
